use Rattle.std.proofs.Common.{[], ◌∷◌, ◌++◌}
use Rattle.std.specs.Fmt.{decimal}
use Rattle.dns_printed.proofs.Putting.{behind, first_stopped, same_text, dotted_is}
use Rattle.dns_printed.proofs.numerals.put_dotted.Goals as goal

pub returns-in_err-put_before_dot : goal.returns-in_err-put_before_dot
returns-in_err-put_before_dot c =
    same_text c.args.out.now.items c.put_before_dot.new.out.items ((decimal c.args.a ++ 46 ∷ []) ++ ((decimal c.args.b ++ 46 ∷ []) ++ ((decimal c.args.c ++ 46 ∷ []) ++ (decimal c.args.d)))) _ c.from_residual.result
    (dotted_is c.args.a c.args.b c.args.c c.args.d)
    (first_stopped c.args.out.now.items c.put_before_dot.new.out.items (decimal c.args.a ++ 46 ∷ []) ((decimal c.args.b ++ 46 ∷ []) ++ ((decimal c.args.c ++ 46 ∷ []) ++ (decimal c.args.d))) c.from_residual.result c.from_residual.ensures.0 c.in_err-put_before_dot.ensures)

pub returns-in_err-put_before_dot-2 : goal.returns-in_err-put_before_dot-2
returns-in_err-put_before_dot-2 c =
    same_text c.args.out.now.items c.put_before_dot-2.new.out.items ((decimal c.args.a ++ 46 ∷ []) ++ ((decimal c.args.b ++ 46 ∷ []) ++ ((decimal c.args.c ++ 46 ∷ []) ++ (decimal c.args.d)))) _ c.from_residual-in_err-put_before_dot-2.result
    (dotted_is c.args.a c.args.b c.args.c c.args.d)
    (behind c.args.out.now.items c.put_before_dot.new.out.items c.put_before_dot-2.new.out.items (decimal c.args.a ++ 46 ∷ []) ((decimal c.args.b ++ 46 ∷ []) ++ ((decimal c.args.c ++ 46 ∷ []) ++ (decimal c.args.d))) c.from_residual-in_err-put_before_dot-2.result c.in_ok-put_before_dot.ensures
    (first_stopped c.put_before_dot.new.out.items c.put_before_dot-2.new.out.items (decimal c.args.b ++ 46 ∷ []) ((decimal c.args.c ++ 46 ∷ []) ++ (decimal c.args.d)) c.from_residual-in_err-put_before_dot-2.result c.from_residual-in_err-put_before_dot-2.ensures.0 c.in_err-put_before_dot-2.ensures))

pub returns-in_err-put_before_dot-3 : goal.returns-in_err-put_before_dot-3
returns-in_err-put_before_dot-3 c =
    same_text c.args.out.now.items c.put_before_dot-3.new.out.items ((decimal c.args.a ++ 46 ∷ []) ++ ((decimal c.args.b ++ 46 ∷ []) ++ ((decimal c.args.c ++ 46 ∷ []) ++ (decimal c.args.d)))) _ c.from_residual-in_err-put_before_dot-3.result
    (dotted_is c.args.a c.args.b c.args.c c.args.d)
    (behind c.args.out.now.items c.put_before_dot.new.out.items c.put_before_dot-3.new.out.items (decimal c.args.a ++ 46 ∷ []) ((decimal c.args.b ++ 46 ∷ []) ++ ((decimal c.args.c ++ 46 ∷ []) ++ (decimal c.args.d))) c.from_residual-in_err-put_before_dot-3.result c.in_ok-put_before_dot.ensures
    (behind c.put_before_dot.new.out.items c.put_before_dot-2.new.out.items c.put_before_dot-3.new.out.items (decimal c.args.b ++ 46 ∷ []) ((decimal c.args.c ++ 46 ∷ []) ++ (decimal c.args.d)) c.from_residual-in_err-put_before_dot-3.result c.in_ok-put_before_dot-2.ensures
    (first_stopped c.put_before_dot-2.new.out.items c.put_before_dot-3.new.out.items (decimal c.args.c ++ 46 ∷ []) (decimal c.args.d) c.from_residual-in_err-put_before_dot-3.result c.from_residual-in_err-put_before_dot-3.ensures.0 c.in_err-put_before_dot-3.ensures)))

pub returns : goal.returns
returns c =
    same_text c.args.out.now.items c.put_number.new.out.items ((decimal c.args.a ++ 46 ∷ []) ++ ((decimal c.args.b ++ 46 ∷ []) ++ ((decimal c.args.c ++ 46 ∷ []) ++ (decimal c.args.d)))) _ c.put_number.result
    (dotted_is c.args.a c.args.b c.args.c c.args.d)
    (behind c.args.out.now.items c.put_before_dot.new.out.items c.put_number.new.out.items (decimal c.args.a ++ 46 ∷ []) ((decimal c.args.b ++ 46 ∷ []) ++ ((decimal c.args.c ++ 46 ∷ []) ++ (decimal c.args.d))) c.put_number.result c.in_ok-put_before_dot.ensures
    (behind c.put_before_dot.new.out.items c.put_before_dot-2.new.out.items c.put_number.new.out.items (decimal c.args.b ++ 46 ∷ []) ((decimal c.args.c ++ 46 ∷ []) ++ (decimal c.args.d)) c.put_number.result c.in_ok-put_before_dot-2.ensures
    (behind c.put_before_dot-2.new.out.items c.put_before_dot-3.new.out.items c.put_number.new.out.items (decimal c.args.c ++ 46 ∷ []) (decimal c.args.d) c.put_number.result c.in_ok-put_before_dot-3.ensures c.put_number.ensures)))
