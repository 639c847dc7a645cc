-- Words without a number of connections are options here exactly where they are options of the library's.
use Rattle.std.proofs.Common.{◌≡◌, ℕ, List, [], ◌∷◌, Bool, true, false, Option, Some, None, refl}
use Rattle.std.specs.Prelude.{count_by, drop, is_some, not, ◌&&◌, ◌||◌, if◌then◌else◌, codes}
use Rattle.std.specs.List.{list_all}
use Rattle.std.specs.Option.{option_map}
use Rattle.std.specs.Str.{bytes_eq}
use Rattle.dns_command.specs.CommandLine.{options_behind}
use Rattle.dns_command.specs.ListeningWords.{are_serve_options, are_single, is_serve_option, service_of}
use Rattle.dns_command.specs.declared.command_line.Options.{Options}
use Rattle.dns_serve.specs.Words.{are_own_options, is_connections_word, is_own_option, serving_of}

abbrev IsPlain : List (List ℕ) → Type 0
IsPlain words = list_all (λ word. not (is_connections_word word)) words ≡ true

first_plain : (a b : Bool) → (not a && b) ≡ true → a ≡ false
first_plain false b h = refl
first_plain true b h = absurd cc

rest_plain : (a b : Bool) → (not a && b) ≡ true → b ≡ true
rest_plain false b h = h
rest_plain true b h = absurd cc

or_false : (a b : Bool) → b ≡ false → (a || b) ≡ a
or_false true b h = refl
or_false false b h = h

all_same : (words : List (List ℕ)) → IsPlain words → list_all is_own_option words ≡ list_all is_serve_option words
all_same [] plain = refl
all_same (word ∷ words) plain =
    rw (or_false (is_serve_option word) (is_connections_word word) (first_plain (is_connections_word word) _ plain), all_same words (rest_plain (is_connections_word word) _ plain)) refl

none_counted : (words : List (List ℕ)) → IsPlain words → count_by is_connections_word words ≡ 0
none_counted [] plain = refl
none_counted (word ∷ words) plain =
    rw (first_plain (is_connections_word word) _ plain, none_counted words (rest_plain (is_connections_word word) _ plain)) refl

and_true : (a b : Bool) → ((a && b) && true) ≡ (a && b)
and_true true true = refl
and_true true false = refl
and_true false b = refl

options_same : (words : List (List ℕ)) → IsPlain words → are_own_options words ≡ are_serve_options words
options_same words plain = rw (all_same words plain, none_counted words plain) (and_true (list_all is_serve_option words) (are_single words))

given : {A B : Type 0} (f : Options → A) (g : Options → B) (b : Bool) (o : Option Options)
    → is_some (if b then option_map f o else None) ≡ is_some (if b then option_map g o else None)
given f g true None = refl
given f g true (Some o) = refl
given f g false o = refl

pub same_words : (words : List (List ℕ)) → IsPlain (drop 2 words) → is_some (serving_of words) ≡ is_some (service_of words)
unfolding serving_of service_of
same_words [] plain = refl
same_words (command ∷ []) plain = refl
same_words (command ∷ origin ∷ words) plain =
    rw (options_same words plain) (given _ _ (bytes_eq command (codes "serve") && are_serve_options words) (options_behind origin words))
