use Rattle.std.proofs.Common.{[], ◌∷◌, ◌++◌}
use Rattle.std.specs.List.{flat_map}
use Rattle.dns_printed.specs.Printed.{string_character}
use Rattle.dns_printed.proofs.Putting.{behind, first_stopped}
use Rattle.dns_printed.proofs.strings.put_string.Goals as goal

pub returns-in_err-put_byte : goal.returns-in_err-put_byte
returns-in_err-put_byte c =
    first_stopped c.args.out.now.items c.put_byte.new.out.items (32 ∷ []) ((34 ∷ []) ++ ((flat_map string_character c.args.text.now) ++ (34 ∷ []))) c.from_residual.result c.from_residual.ensures.0 c.in_err-put_byte.ensures

pub returns-in_err-put_byte-2 : goal.returns-in_err-put_byte-2
returns-in_err-put_byte-2 c =
    behind c.args.out.now.items c.put_byte.new.out.items c.put_byte-2.new.out.items (32 ∷ []) ((34 ∷ []) ++ ((flat_map string_character c.args.text.now) ++ (34 ∷ []))) c.from_residual-in_err-put_byte-2.result c.in_ok-put_byte.ensures
    (first_stopped c.put_byte.new.out.items c.put_byte-2.new.out.items (34 ∷ []) ((flat_map string_character c.args.text.now) ++ (34 ∷ [])) c.from_residual-in_err-put_byte-2.result c.from_residual-in_err-put_byte-2.ensures.0 c.in_err-put_byte-2.ensures)

pub returns-in_err-put_string_characters : goal.returns-in_err-put_string_characters
returns-in_err-put_string_characters c =
    behind c.args.out.now.items c.put_byte.new.out.items c.put_string_characters.new.out.items (32 ∷ []) ((34 ∷ []) ++ ((flat_map string_character c.args.text.now) ++ (34 ∷ []))) c.from_residual-in_err-put_string_characters.result c.in_ok-put_byte.ensures
    (behind c.put_byte.new.out.items c.put_byte-2.new.out.items c.put_string_characters.new.out.items (34 ∷ []) ((flat_map string_character c.args.text.now) ++ (34 ∷ [])) c.from_residual-in_err-put_string_characters.result c.in_ok-put_byte-2.ensures
    (first_stopped c.put_byte-2.new.out.items c.put_string_characters.new.out.items (flat_map string_character c.args.text.now) (34 ∷ []) c.from_residual-in_err-put_string_characters.result c.from_residual-in_err-put_string_characters.ensures.0 c.in_err-put_string_characters.ensures))

pub returns : goal.returns
returns c =
    behind c.args.out.now.items c.put_byte.new.out.items c.put_byte-3.new.out.items (32 ∷ []) ((34 ∷ []) ++ ((flat_map string_character c.args.text.now) ++ (34 ∷ []))) c.put_byte-3.result c.in_ok-put_byte.ensures
    (behind c.put_byte.new.out.items c.put_byte-2.new.out.items c.put_byte-3.new.out.items (34 ∷ []) ((flat_map string_character c.args.text.now) ++ (34 ∷ [])) c.put_byte-3.result c.in_ok-put_byte-2.ensures
    (behind c.put_byte-2.new.out.items c.put_string_characters.new.out.items c.put_byte-3.new.out.items (flat_map string_character c.args.text.now) (34 ∷ []) c.put_byte-3.result c.in_ok-put_string_characters.ensures c.put_byte-3.ensures))
