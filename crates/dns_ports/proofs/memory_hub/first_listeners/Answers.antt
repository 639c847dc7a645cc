use Rattle.std.proofs.Common.{rules, ◌∷◌, [], All, refl}
use native.Mathlib.Numerals.{unary_clauses}
use Rattle.std.proofs.lemmas.List.{drop-drop}
use Rattle.std.proofs.lemmas.List.Elements.{All-append}
use Rattle.dns_ports.specs.Memory.{IsUnusedTcp}
use Rattle.dns_ports.proofs.memory_hub.first_listeners.Goals as goal

-- one more listener was moved
pub loop-place-preserved : goal.loop-place-preserved
loop-place-preserved c =
    let i = c.loop-place.invariant in
    let one : All IsUnusedTcp (c.first_listener-listener.result ∷ []) = search rules in (
      rw (c.push_reserved.ensures.items, i.0, c.first_listener-listener.ensures.first, i.1) (simp unary_clauses refl),
      rw (c.first_listener-listener.ensures.rest, i.1) (drop-drop 1 c.loop-place._place c.args.listeners.now.items),
      rw (c.push_reserved.ensures.items) (All-append IsUnusedTcp _ _ i.2 one),
      c.first_listener-listener.ensures.unused_rest,
      search rules,
      search rules,
    )
