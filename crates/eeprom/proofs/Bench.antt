-- Worked cases of a range, by computing: the edges that RULES, range, names, each as an equation of a definition.
use mathlib.Core.Path.{◌≡◌, refl}
use mathlib.Core.List.{List, [], ◌∷◌}
use Prim.Native.Nat.{ℕ}
use Rattle.refusal.specs.Said.{gives, refuses}
use Rattle.wire.specs.Bytes.{byte_at, span, filled, overlay}
use Rattle.eeprom.specs.Image.{within, in_bounds, fine}
use Rattle.eeprom.specs.Range.{new_said, start_said, skip_in, skip_said, byte_in, byte_said, read_buf, exact_said, exact_pos, padded, words_asked, words_in, words_counted, words_written, stopped, write_in, write_said, write_pos, words_laid, write_image}

abbrev pub eight : List ℕ
eight = 10 ∷ 11 ∷ 12 ∷ 13 ∷ 14 ∷ 15 ∷ 16 ∷ 17 ∷ []

pub record Cases : Type 0 where
  -- a range's end may be 131,072 and no more; half a word is dropped
  pub highest : new_said 65533 3 ≡ gives (131066 ∷ 131072 ∷ [])
  pub too_high : new_said 65533 4 ≡ refuses 1 []
  pub odd_length : start_said 4 5 ≡ gives (8 ∷ 12 ∷ [])
  -- landing on the end is refused, even by 0
  pub on_the_end : skip_said 4 4 0 ≡ refuses 2 []
  pub skip_in_full : skip_said 131072 131072 65535 ≡ refuses 2 []
  -- an odd end, a position or an end above 131,072 is outside the bounds
  pub odd_end : skip_said 0 5 1 ≡ refuses 14 []
  pub far_stands : skip_said 131073 4 0 ≡ refuses 14 []
  pub far_end : skip_said 0 131074 0 ≡ refuses 14 []
  -- a byte is read before the end, not at it, and not past it
  pub last_byte : byte_said eight 3 4 ≡ gives (13 ∷ 4 ∷ 4 ∷ [])
  pub byte_on_the_end : byte_said eight 4 4 ≡ refuses 2 []
  pub byte_past_the_end : byte_said eight 65535 65534 ≡ refuses 2 []
  pub byte_odd_end : byte_said eight 5 5 ≡ refuses 14 []
  pub highest_byte : byte_said eight 131071 131072 ≡ gives (255 ∷ 131072 ∷ 131072 ∷ [])
  -- an exact read that does not fit fills what there is
  pub short_said : exact_said eight 5 8 4 ≡ refuses 2 []
  pub short_stands : exact_pos eight 5 8 4 ≡ 8
  pub short_buf : read_buf eight 5 8 (1 ∷ 2 ∷ 3 ∷ 4 ∷ []) ≡ 15 ∷ 16 ∷ 17 ∷ 4 ∷ []
  -- .. and stays where it stands if past the end
  pub past_said : exact_said eight 9 8 4 ≡ refuses 2 []
  pub past_stands : exact_pos eight 9 8 4 ≡ 9
  -- past the image bytes read as 0xFF
  pub past_image : read_buf eight 6 10 (1 ∷ 2 ∷ 3 ∷ 4 ∷ []) ≡ 16 ∷ 17 ∷ 255 ∷ 255 ∷ []
  -- at an odd position the word that contains it is written
  pub odd_said : write_said eight 3 4 (0x61 ∷ 0x62 ∷ []) ≡ gives (2 ∷ [])
  pub odd_stands : write_pos eight 3 4 (0x61 ∷ 0x62 ∷ []) ≡ 5
  pub odd_image : write_image eight 3 4 (0x61 ∷ 0x62 ∷ []) ≡ 10 ∷ 11 ∷ 0x61 ∷ 0x62 ∷ 14 ∷ 15 ∷ 16 ∷ 17 ∷ []
  -- an odd last byte is padded, and the padding counted
  pub padded_said : write_said eight 0 8 (1 ∷ 2 ∷ 3 ∷ []) ≡ gives (4 ∷ [])
  pub padded_stands : write_pos eight 0 8 (1 ∷ 2 ∷ 3 ∷ []) ≡ 4
  pub padded_image : write_image eight 0 8 (1 ∷ 2 ∷ 3 ∷ []) ≡ 1 ∷ 2 ∷ 3 ∷ 0 ∷ 14 ∷ 15 ∷ 16 ∷ 17 ∷ []
  -- a word that is not wholly in the image stops the write, and the words before it stay written
  pub stopped_said : write_said eight 6 12 (1 ∷ 2 ∷ 3 ∷ 4 ∷ []) ≡ refuses 7 []
  pub stopped_stands : write_pos eight 6 12 (1 ∷ 2 ∷ 3 ∷ 4 ∷ []) ≡ 8
  pub stopped_image : write_image eight 6 12 (1 ∷ 2 ∷ 3 ∷ 4 ∷ []) ≡ 10 ∷ 11 ∷ 12 ∷ 13 ∷ 14 ∷ 15 ∷ 1 ∷ 2 ∷ []
  -- half a word at the image's end is not written
  pub half_said : write_said (1 ∷ 2 ∷ 3 ∷ []) 2 8 (9 ∷ 9 ∷ []) ≡ refuses 7 []
  pub half_image : write_image (1 ∷ 2 ∷ 3 ∷ []) 2 8 (9 ∷ 9 ∷ []) ≡ 1 ∷ 2 ∷ 3 ∷ []
  -- the end clips: of four bytes two are written, and that is no refusal
  pub clipped_said : write_said eight 2 4 (1 ∷ 2 ∷ 3 ∷ 4 ∷ []) ≡ gives (2 ∷ [])
  pub clipped_image : write_image eight 2 4 (1 ∷ 2 ∷ 3 ∷ 4 ∷ []) ≡ 10 ∷ 11 ∷ 1 ∷ 2 ∷ 14 ∷ 15 ∷ 16 ∷ 17 ∷ []
  -- at position 131,071 of a range that ends at 131,072 the next position would pass it: 1, before 7; the word before is written and counted
  pub limit_said : write_said eight 131071 131072 (1 ∷ []) ≡ refuses 1 []
  pub limit_stands : write_pos eight 131071 131072 (1 ∷ []) ≡ 131071
  pub limit_in : write_in 131072 131069 131072 4 ≡ refuses 1 []
  pub limit_words : words_written 131072 131069 131072 4 ≡ 1
  pub even_said : write_said eight 131070 131072 (1 ∷ []) ≡ refuses 7 []
  -- at 131,072 no word is asked for
  pub highest_said : write_said eight 131072 131072 (1 ∷ []) ≡ gives (0 ∷ [])
  pub highest_stands : write_pos eight 131072 131072 (1 ∷ []) ≡ 131072

pub cases : Cases
unfolding new_said start_said skip_said skip_in byte_said byte_in exact_said exact_pos fine within in_bounds read_buf filled span byte_at write_said write_in write_pos words_written words_asked words_in words_counted stopped words_laid padded write_image overlay
cases =
    record {
      highest = refl;
      too_high = refl;
      odd_length = refl;
      on_the_end = refl;
      skip_in_full = refl;
      odd_end = refl;
      far_stands = refl;
      far_end = refl;
      last_byte = refl;
      byte_on_the_end = refl;
      byte_past_the_end = refl;
      byte_odd_end = refl;
      highest_byte = refl;
      short_said = refl;
      short_stands = refl;
      short_buf = refl;
      past_said = refl;
      past_stands = refl;
      past_image = refl;
      odd_said = refl;
      odd_stands = refl;
      odd_image = refl;
      padded_said = refl;
      padded_stands = refl;
      padded_image = refl;
      stopped_said = refl;
      stopped_stands = refl;
      stopped_image = refl;
      half_said = refl;
      half_image = refl;
      clipped_said = refl;
      clipped_image = refl;
      limit_said = refl;
      limit_stands = refl;
      limit_in = refl;
      limit_words = refl;
      even_said = refl;
      highest_said = refl;
      highest_stands = refl;
    }
