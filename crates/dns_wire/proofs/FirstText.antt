-- The first of the byte strings that bytes spell.
use Rattle.std.proofs.Common.{◌≡◌, ℕ, suc, ◌+◌, ◌-◌, ◌<◌, ◌≤◌, true, false, List, [], ◌∷◌, length, get_or, take, drop, refl, sym, ◌∙◌, arith}
use Rattle.std.specs.Prelude.{◌==◌}
use Rattle.std.proofs.lemmas.Bool.{eqb-true, eqb-false}
use Rattle.std.proofs.lemmas.List.{nil_from_length, take_all}
use Rattle.dns_name.proofs.Wire.{labels_of-spelled}
use Rattle.dns_wire.specs.Texts.{texts_of, AreSpelled}
use Rattle.dns_wire.proofs.Cuts.{first_of, AreSpelled-by}

-- the first byte string, and the byte strings behind it
pub record Head (bytes : List ℕ) : Type 0 where
  pub others : List (List ℕ)
  pub is : texts_of bytes ≡ take (get_or bytes 0 0) (drop 1 bytes) ∷ others
  pub within : 1 + get_or bytes 0 0 ≤ length bytes
  pub rest : AreSpelled (drop (1 + get_or bytes 0 0) bytes)
  pub rest_is : texts_of (drop (1 + get_or bytes 0 0) bytes) ≡ others

pub head_of : (bytes : List ℕ) → AreSpelled bytes → 0 < length bytes → Head bytes
head_of [] s h = absurd (omega arith)
head_of (n ∷ tail) s h =
    let f = first_of n tail (texts_of (n ∷ tail)) s.each s.spelled in
    let size : 1 + n ≡ suc n = omega arith in
    record {
      others = f.others;
      is = f.is;
      within = omega (arith, f.within);
      rest = rw size (AreSpelled-by (drop n tail) f.others f.each f.left);
      rest_is = rw size (labels_of-spelled (drop n tail) f.others f.left);
    }

pub some_bytes : (bytes : List ℕ) → false ≡ (length bytes == 0) → 0 < length bytes
some_bytes bytes e = let n = eqb-false (length bytes) 0 (sym e) in omega arith

pub no_texts : (bytes : List ℕ) (self : List (List ℕ)) → texts_of bytes ≡ self → true ≡ (length bytes == 0) → self ≡ []
no_texts bytes self v e = sym v ∙ labels_of-spelled bytes [] (nil_from_length bytes (eqb-true (length bytes) 0 (sym e)))

-- one step of the byte strings
pub texts_step : (bytes front rest : List ℕ) (self : List (List ℕ)) → AreSpelled bytes → texts_of bytes ≡ self → 0 < length bytes → front ≡ take (1 + get_or bytes 0 0) bytes → rest ≡ drop (1 + get_or bytes 0 0) bytes → self ≡ take (length front - 1) (drop 1 front) ∷ texts_of rest
texts_step bytes front rest self w v h f r =
    let d = head_of bytes w h in
    sym v ∙ d.is ∙ rw (f, r, d.rest_is, front_is bytes d.within) refl
  where
    front_is : (bytes : List ℕ) → 1 + get_or bytes 0 0 ≤ length bytes → take (length (take (1 + get_or bytes 0 0) bytes) - 1) (drop 1 (take (1 + get_or bytes 0 0) bytes)) ≡ take (get_or bytes 0 0) (drop 1 bytes)
    front_is [] h = absurd (omega arith)
    front_is (n ∷ tail) h = let size : 1 + n ≡ suc n = omega arith in rw size (take_all _ (take n tail) (omega arith))
