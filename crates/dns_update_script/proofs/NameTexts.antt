-- The name that a word writes, where it is text and where it is none.
use Rattle.std.proofs.Common.{◌≡◌, ℕ, Bool, true, false, List, Ok, Err, refl, sym, ap, ◌∙◌}
use Rattle.std.specs.Prelude.{if◌then◌else◌}
use Rattle.std.specs.Result.{result_ok}
use Rattle.std.specs.Str.{IsUtf8, is_utf8}
use Rattle.std.proofs.lemmas.Str.{IsUtf8-from_is_utf8, is_utf8-from_IsUtf8}
use Rattle.dns_name.specs.NameText.{name_of}
use Rattle.dns_update_script.specs.declared.fault.ScriptKind.TheVariants as kind
use Rattle.dns_update_script.specs.Line.{or_kind, name_in}

pub name_in-text : (word text : List ℕ) (name : List (List ℕ)) → text ≡ word → IsUtf8 word → name_of text ≡ Ok name → name_in word ≡ Ok name
name_in-text word text name same utf8 found =
    rw (is_utf8-from_IsUtf8 word utf8) (ap (λ w. or_kind kind.Name (result_ok (name_of w))) (sym same) ∙ ap (λ r. or_kind kind.Name (result_ok r)) found)

pub name_in-bytes : (word : List ℕ) → ¬ (IsUtf8 word) → name_in word ≡ Err kind.Name
name_in-bytes word none = by_test (is_utf8 word) refl
  where
    by_test : (test : Bool) → is_utf8 word ≡ test → (if test then or_kind kind.Name (result_ok (name_of word)) else Err kind.Name) ≡ Err kind.Name
    by_test true is = absurd (none (IsUtf8-from_is_utf8 word is))
    by_test false is = refl
