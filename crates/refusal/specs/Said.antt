-- What a call says, on paper: values, that there is none, or a refusal by its number (RULES, refusals) with its values.
-- Every answer of the crates above is said by one of the maps below, and the promises are equations of Said.
use Rattle.std.specs.Prelude.{ℕ, List, [], ◌∷◌, ◌++◌, Bool, true, false, get_or, take, Option, Some, None, Result, Ok, Err, ⊤}
use Rattle.refusal.specs.declared.Refusal.{Refusal}
use Rattle.refusal.specs.declared.Refusal.TheVariants as r

pub data Said : Type 0 where
  gives : List ℕ → Said
  absent : Said
  refuses : ℕ → List ℕ → Said

-- THE REFUSALS (RULES, refusals): the number that each is known by, and the values that it gives
abbrev pub known_by : Refusal → ℕ × List ℕ
known_by r.Address = (1, [])
known_by r.Overrun = (2, [])
known_by r.NoCategory = (3, [])
known_by (r.StringTooLong room stored) = (4, room ∷ stored ∷ [])
known_by r.Decode = (5, [])
known_by r.Capacity = (6, [])
known_by r.NotWritable = (7, [])
known_by r.TooLong = (8, [])
known_by r.NoPort = (9, [])
known_by r.BadPort = (10, [])
known_by r.Sum = (11, [])
known_by r.BadFrame = (12, [])
known_by r.NoRoom = (13, [])
known_by r.BadArgument = (14, [])
known_by (r.WrongFrame place) = (19, place ∷ [])
known_by (r.WrongCommand place) = (20, place ∷ [])
known_by (r.WrongIndex place) = (21, place ∷ [])
known_by (r.WrongLength place) = (22, place ∷ [])

abbrev pub number_of : Refusal → ℕ
number_of x = (known_by x).0

abbrev pub values_of : Refusal → List ℕ
values_of x = (known_by x).1

-- .. as a row of two, zeros behind them
abbrev pub values_row : Refusal → List ℕ
values_row x = take 2 (values_of x ++ (0 ∷ 0 ∷ []))

abbrev pub said_of : Refusal → Said
said_of x = refuses (number_of x) (values_of x)

-- ---- what an answer says, where these are the values of what it gives
abbrev pub said : {T : Type 0} → (T → List ℕ) → Result T Refusal → Said
said values (Ok x) = gives (values x)
said values (Err x) = said_of x

-- .. of an answer that may be absent
abbrev pub said_if_any : {T : Type 0} → (T → List ℕ) → Result (Option T) Refusal → Said
said_if_any values (Ok (Some x)) = gives (values x)
said_if_any values (Ok None) = absent
said_if_any values (Err x) = said_of x

-- a number gives itself; done gives no values
abbrev pub number_value : ℕ → List ℕ
number_value n = n ∷ []

abbrev pub no_values : ⊤ → List ℕ
no_values _ = []

-- a if the test holds, else b
abbrev pub pick {ℓ} : {A : Type ℓ} → Bool → A → A → A
pick true a b = a
pick false a b = b

-- where a call gives two values, or three, what follows; else what it says
unfoldable pub on2 : Said → (ℕ → ℕ → Said) → Said
on2 (gives l) k = k (get_or l 0 0) (get_or l 1 0)
on2 absent k = absent
on2 (refuses n l) k = refuses n l

unfoldable pub on3 : Said → (ℕ → ℕ → ℕ → Said) → Said
on3 (gives l) k = k (get_or l 0 0) (get_or l 1 0) (get_or l 2 0)
on3 absent k = absent
on3 (refuses n l) k = refuses n l
