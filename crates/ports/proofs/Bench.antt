-- The bench cases on ports that are not marked P (RULES, bench; the crate `bench` has the others), times that pass the wrap, and what DECISIONS says of a record
-- that no call made: each is computed.
use Rattle.std.proofs.Common.{◌≡◌, ℕ, true, false, eqb, ltb, [], ◌∷◌, Some, sym, refl, ap, ◌∙◌, le_refl, arith, le-ltb}
use Rattle.refusal.specs.Said.{gives, absent, refuses}
use Rattle.ports.specs.declared.Ports.{Ports}
use Rattle.ports.specs.Answers.{entry_said}
use Rattle.ports.specs.Ports.{no_port, those, first_that, folded, earliest, active_ports, entry, fresh, times_set, link_set}
use Rattle.ports.specs.Delays.{largest, smallest, breadth, delay_said, elapsed, total_from, total_from_said, active_between, time_to, time_to_said, gap, gaps, sum_said, intermediate_said}
use Rattle.ports.specs.Assigning.{assignable, assigned_said, assigned_ports}
use Rattle.ports.specs.Display.{word_of, words, text_of}
use Rattle.ports.proofs.Linking.{assigned_stays}

-- active 0 and 3, equal times
unfoldable pub two : ℕ → Ports
unfolding fresh times_set
two t = times_set (fresh true true false false) t t 0 0

-- active 0 and 3, at 6 before the clock turns over and at 10 after it
unfoldable pub turning : Ports
unfolding fresh times_set
turning = times_set (fresh true true false false) 4294967290 10 0 0

-- a record that no call made: place 1 is active, calls itself port 7 and leads to device 0
unfoldable pub stray : Ports
stray = record { 0 = no_port ∷ record { active = true; dc_receive_time = 5; number = 7; downstream_to = Some 0 } ∷ no_port ∷ no_port ∷ [] }

-- the record after a device is assigned
abbrev after : Ports → ℕ → Ports
after p d = assigned_ports p d

pub record Bench (t : ℕ) : Type 0 where
  -- all four active, 100 200 300 400 by place: intermediate to port 1
  pub four_between : intermediate_said (times_set (fresh true true true true) 100 200 300 400) 1 ≡ gives (200 ∷ [])
  -- active 0, 3, 2 at 10, 30, 90, the time of port 1 any: to port 2
  pub three_to : time_to_said (times_set (fresh true true false true) 10 30 t 90) 2 ≡ gives (80 ∷ [])
  pub shown : text_of (fresh true false true false) ≡
      112 ∷ 111 ∷ 114 ∷ 116 ∷ 115 ∷ 32 ∷ 91 ∷ 32 ∷ 111 ∷ 112 ∷ 101 ∷ 110 ∷ 32 ∷ 99 ∷ 108 ∷ 111 ∷ 115 ∷ 101 ∷ 100 ∷ 32 ∷ 111 ∷ 112 ∷ 101 ∷ 110 ∷ 32 ∷ 99 ∷ 108 ∷ 111 ∷ 115 ∷ 101 ∷ 100 ∷ 32 ∷ 93 ∷ []
  -- the first link goes to port 3; port 0 is the entry, so the second is absent, and the third
  pub two_first : assigned_said (two t) 1 ≡ gives (3 ∷ [])
  pub two_second : assigned_said (after (two t) 1) 2 ≡ absent
  pub two_third : assigned_said (after (after (two t) 1) 2) 3 ≡ absent
  -- the clock turns over between port 0 and port 3; from port 3 on it has not yet come round; port 1 is inactive; there is no port 4
  pub turned_over : total_from_said turning 0 ≡ gives (16 ∷ [])
  pub turned_back : total_from_said turning 3 ≡ gives (4294967280 ∷ [])
  pub from_inactive : total_from_said turning 1 ≡ refuses 9 []
  pub from_no_port : total_from_said turning 4 ≡ refuses 10 []
  -- the place decides, and a link to device 0 is a link
  pub stray_entry : entry_said stray ≡ gives (3 ∷ [])
  pub stray_assigned : assigned_said stray 1 ≡ absent

module _ (t : ℕ) where
  same : ltb t t ≡ false
  same = le-ltb t t (le_refl t)

  -- the one link, made
  after_one : after (two t) 1 ≡ link_set (two t) 1 1
  unfolding two those first_that folded earliest active_ports entry link_set assignable assigned_said assigned_ports
  after_one = rw (same, after)

  no_second : (d : ℕ) → eqb d 0 ≡ false → assigned_said (link_set (two t) 1 1) d ≡ absent
  unfolding two those first_that folded earliest active_ports entry link_set assignable assigned_said
  no_second d some = rw (same, some)

  after_two : after (link_set (two t) 1 1) 2 ≡ link_set (two t) 1 1
  after_two = assigned_stays (link_set (two t) 1 1) 2 (λ (n : ℕ) (e : assigned_said (link_set (two t) 1 1) 2 ≡ gives (n ∷ [])). other n (sym (no_second 2 refl) ∙ e))
    where
      other : (n : ℕ) → absent ≡ gives (n ∷ []) → ⊥
      other n e = let w : ◌≡◌ {A = ℕ} 0 1 = cc in let r : ⊥ = omega arith in r

  pub bench : Bench t
  unfolding two turning those first_that folded earliest active_ports entry fresh times_set link_set largest smallest breadth delay_said elapsed total_from total_from_said active_between time_to time_to_said gap gaps sum_said intermediate_said assignable assigned_said word_of words text_of stray entry_said
  bench =
      record {
        four_between = refl;
        three_to = refl;
        shown = refl;
        two_first = rw same;
        two_second = ap (λ (p : Ports). assigned_said p 2) after_one ∙ no_second 2 refl;
        two_third = ap (λ (p : Ports). assigned_said p 3) (ap (λ (p : Ports). after p 2) after_one ∙ after_two) ∙ no_second 3 refl;
        turned_over = refl;
        turned_back = refl;
        from_inactive = refl;
        from_no_port = refl;
        stray_entry = refl;
        stray_assigned = refl;
      }
