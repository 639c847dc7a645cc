-- Lines that are written one after another.
use Rattle.std.proofs.Common.{◌≡◌, ℕ, ◌+◌, ◌<◌, List, [], ◌∷◌, ◌++◌, length, take, drop, get_or, sym, ap, ◌∙◌, append_assoc, append-nil}
use Rattle.std.specs.List.{flat_map}
use Rattle.std.proofs.lemmas.List.{take-append-drop, drop_more, take_more}
use Rattle.std.proofs.lemmas.List.Concat.{flat_map-append}
use Rattle.dns_server_core.specs.declared.event.Out.{Out}
use Rattle.dns_command.specs.Lines.{out_line}

-- the lines of a list: those before an item, the item's, and those behind it
pub lines_round : (outs : List Out) (i : ℕ) (one : Out) → i < length outs → one ≡ get_or outs i one → flat_map out_line outs ≡ (flat_map out_line (take i outs) ++ out_line one) ++ flat_map out_line (drop (i + 1) outs)
lines_round outs i one h is =
    let cut : drop i outs ≡ one ∷ drop (i + 1) outs = drop_more outs i one h ∙ ap (λ (x : Out). x ∷ drop (i + 1) outs) (sym is) in
    ap (flat_map out_line) (sym (take-append-drop i outs)) ∙ flat_map-append out_line (take i outs) (drop i outs)
    ∙ ap (λ (xs : List Out). flat_map out_line (take i outs) ++ flat_map out_line xs) cut ∙ sym (append_assoc (flat_map out_line (take i outs)) (out_line one) (flat_map out_line (drop (i + 1) outs)))

-- the lines of the items up to one more
pub lines_more : (outs : List Out) (i : ℕ) (one : Out) → i < length outs → one ≡ get_or outs i one → flat_map out_line (take (i + 1) outs) ≡ flat_map out_line (take i outs) ++ out_line one
lines_more outs i one h is =
    ap (flat_map out_line) (take_more outs i one h ∙ ap (λ (x : Out). take i outs ++ x ∷ []) (sym is)) ∙ flat_map-append out_line (take i outs) (one ∷ []) ∙ ap (λ (xs : List ℕ). flat_map out_line (take i outs) ++ xs) (append-nil (out_line one))
