-- The category General: RULES, read-out, and types.rs, `SiiGeneral`; beside it two fields by ETG2010's places. Definitions only.
use Rattle.std.specs.Prelude.{ℕ, ◌+◌, ◌/◌, ◌%◌, List, [], ◌∷◌, Bool, ◌&&◌, get_or, leb, ltb}
use Rattle.refusal.specs.Said.{Said, gives, absent, refuses, pick, on2}
use Rattle.wire.specs.Bytes.{bit}
use Rattle.category.specs.Numbers as numbers
use Rattle.category.specs.Category.{category_said}
use Rattle.sii.specs.Layout.{
  Field,
  start,
  width,
  field,
  general_bytes,
  group_idx,
  img_idx,
  order_idx,
  name_idx,
  coe_details_field,
  foe_details,
  eoe_details,
  general_flags,
  current_on_e_bus,
  ports_of_types,
  address_of_types,
  physical_port,
  physical_memory_address,
  port_status_last,
  coe_below,
  flags_below,
}
use Rattle.sii.specs.declared.SiiGeneral.{SiiGeneral}
use Rattle.sii.specs.declared.PhysicalPorts.{PhysicalPorts}

-- a value of an enum whose listed ones are 0 to the last: one not listed is the default, 0
unfoldable pub listed : ℕ → ℕ → ℕ
listed last n = pick (leb n last) n 0

abbrev pub port_status : ℕ → ℕ
port_status n = listed port_status_last n

-- the kinds of the ports, four bits each, port 0 in the lowest
abbrev pub ports_of : ℕ → PhysicalPorts
ports_of n = record {
  port0 = port_status (n % 16);
  port1 = port_status (n / 16 % 16);
  port2 = port_status (n / 256 % 16);
  port3 = port_status (n / 4096 % 16);
}

unfoldable pub general_of : List ℕ → ℕ → SiiGeneral
general_of image p = record {
  group_string_idx = field image p group_idx;
  image_string_idx = field image p img_idx;
  order_string_idx = field image p order_idx;
  name_string_idx = field image p name_idx;
  coe_details = field image p coe_details_field;
  foe_enabled = ltb 0 (field image p foe_details);
  eoe_enabled = ltb 0 (field image p eoe_details);
  flags = field image p general_flags;
  ebus_current = field image p current_on_e_bus;
  ports = ports_of (field image p ports_of_types);
  physical_memory_addr = field image p address_of_types;
}

-- no undefined bit stands in the CoE details, nor in the flags
unfoldable pub general_admits : SiiGeneral → Bool
general_admits g = ltb g.coe_details coe_below && ltb g.flags flags_below

abbrev pub general_values : SiiGeneral → List ℕ
general_values g =
    g.group_string_idx ∷ g.image_string_idx ∷ g.order_string_idx ∷ g.name_string_idx ∷ g.coe_details
    ∷ bit g.foe_enabled ∷ bit g.eoe_enabled ∷ g.flags ∷ g.ebus_current
    ∷ g.ports.port0 ∷ g.ports.port1 ∷ g.ports.port2 ∷ g.ports.port3 ∷ g.physical_memory_addr ∷ []

-- of a category from p to end: its bytes are read exactly (2), then decoded (5)
unfoldable pub general_in : List ℕ → ℕ → ℕ → Said
general_in image p end =
    pick (leb (p + general_bytes) end)
    (pick (general_admits (general_of image p)) (gives (general_values (general_of image p))) (refuses 5 []))
    (refuses 2 [])

-- General, where it is found
unfoldable pub general_found : List ℕ → Said
general_found image = on2 (category_said image numbers.general) (general_in image)

-- General is needed, and not found is 3
unfoldable pub needed : Said → Said
needed (gives l) = gives l
needed absent = refuses 3 []
needed (refuses n l) = refuses n l

unfoldable pub general_said : List ℕ → Said
general_said image = needed (general_found image)

-- ---- by ETG2010's places

-- a field of the category from p to end: its bytes are read exactly
unfoldable pub word_in : List ℕ → Field → ℕ → ℕ → Said
word_in image f p end = pick (leb (p + start f + width f) end) (gives (field image p f ∷ [])) (refuses 2 [])

-- .. of General, which is needed
unfoldable pub general_word : List ℕ → Field → Said
general_word image f = on2 (needed (category_said image numbers.general)) (word_in image f)

-- the physical memory address (ETG2010 Table 7)
unfoldable pub address_said : List ℕ → Said
address_said image = general_word image physical_memory_address

-- the kinds of the ports (ETG2010 Table 7)
abbrev pub port_values : PhysicalPorts → List ℕ
port_values p = p.port0 ∷ p.port1 ∷ p.port2 ∷ p.port3 ∷ []

unfoldable pub kinds_of : Said → Said
kinds_of (gives l) = gives (port_values (ports_of (get_or l 0 0)))
kinds_of absent = absent
kinds_of (refuses n l) = refuses n l

unfoldable pub ports_said : List ℕ → Said
ports_said image = kinds_of (general_word image physical_port)
