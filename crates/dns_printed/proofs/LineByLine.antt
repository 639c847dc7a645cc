-- The text of a zone line by line.
use Rattle.std.proofs.Common.{◌≡◌, ℕ, zero, suc, ◌<◌, List, [], ◌∷◌, ◌++◌, length, take, drop, map, get_or, arith, refl, sym, ap, subst, ◌∙◌, append_assoc, Bor, Option, Result, Ok, Err, IsErr}
use Rattle.std.specs.Prelude.{IsErrAnd}
use Rattle.std.proofs.lemmas.List.{append-nil}
use Rattle.dns_io.specs.Told.{Grows, GrowsByPrefix}
use Rattle.dns_io.specs.declared.io_fault.IoFault.{IoFault}
use Rattle.dns_io.proofs.ToldContents.{Grows-more, Grows-nothing}
use Rattle.dns_edges.specs.Edges.{Around, SinkTold, HasCause}
use Rattle.dns_words.specs.Writing.{Writes}
use Rattle.dns_wire.specs.declared.record.Record.{Record}
use Rattle.dns_printed.specs.Printed.{printed_line, zone_text, line_at}

-- the text from a place on is the line there and the text behind it
pub line_next : (records : List Record) (place : ℕ) → place < length records → zone_text (drop place records) ≡ line_at records place ++ zone_text (drop (suc place) records)
line_next [] place within = absurd (omega arith)
line_next (r ∷ records) zero within = ap (λ (l : List ℕ). l ++ zone_text records) (sym (append-nil (printed_line r)))
line_next (r ∷ records) (suc place) within = line_next records place (omega arith)

-- the line at a place stands behind the text before it
pub line_behind : (records : List Record) (place : ℕ) → place < length records → zone_text (take (suc place) records) ≡ zone_text (take place records) ++ line_at records place
line_behind [] place within = absurd (omega arith)
line_behind (r ∷ records) zero within = refl
line_behind (r ∷ records) (suc place) within =
    ap (λ (l : List ℕ). printed_line r ++ l) (line_behind records place (omega arith)) ∙ sym (append_assoc (printed_line r) (zone_text (take place records)) (line_at records place))

-- the line at a place is that of the record there
pub line_of : (held : List (Bor Record)) (place : ℕ) (d : Bor Record) → place < length held → printed_line (get_or held place d).now ≡ line_at (map (λ r. r.now) held) place
line_of [] place d within = absurd (omega arith)
line_of (r ∷ held) zero d within = sym (append-nil (printed_line r.now))
line_of (r ∷ held) (suc place) d within = line_of held place d (omega arith)

-- nothing was written of the text yet
pub unwritten : (a : Option (List ℕ)) (text : List ℕ) → GrowsByPrefix a a text text
unwritten a text = record { front = []; parts = refl; grown = Grows-nothing a }

module _ (a b c : Option (List ℕ)) (text line rest : List ℕ) (before : GrowsByPrefix a b text (line ++ rest)) where
  -- one more line was written
  pub written : Grows b c line → GrowsByPrefix a c text rest
  written grown = record {
    front = before.front ++ line;
    parts = before.parts ∙ sym (append_assoc before.front line rest);
    grown = Grows-more a b c before.front line before.grown grown;
  }

  -- a front of one was
  pub written_in_part : (left : List ℕ) → GrowsByPrefix b c line left → GrowsByPrefix a c text (left ++ rest)
  written_in_part left grown = record {
    front = before.front ++ grown.front;
    parts =
        before.parts ∙ ap (λ (l : List ℕ). before.front ++ (l ++ rest)) grown.parts ∙ ap (λ (l : List ℕ). before.front ++ l) (append_assoc grown.front left rest)
        ∙ sym (append_assoc before.front grown.front (left ++ rest));
    grown = Grows-more a b c before.front grown.front before.grown grown.grown;
  }

-- all was written
pub all_written : (a b : Option (List ℕ)) (text rest : List ℕ) → rest ≡ [] → GrowsByPrefix a b text rest → Grows a b text
all_written a b text rest none grown =
    let all : text ≡ grown.front = grown.parts ∙ ap (λ (l : List ℕ). grown.front ++ l) none ∙ append-nil grown.front in
    subst (Grows a b) (sym all) grown.grown

-- a write failed, behind writes that did not
pub failed : (o : Around SinkTold) (text rest : List ℕ) (faults : ℕ) (fault : IoFault) (result : Result (Unit {0}) IoFault) → IsErr result → IsErrAnd result (λ e. e ≡ fault) → GrowsByPrefix o.before.taken o.after.taken text rest
    → faults ≡ o.before.faults → HasCause {T = Unit {0}} faults o.after.faults (Err fault) → Writes o text result
failed o text rest faults fault (Ok done) is_err is grown calm cause = absurd cc
failed o text rest faults fault (Err e) is_err is grown calm cause = record {
  ok = tt;
  err = (rest, grown);
  cause = subst (λ (x : IoFault). HasCause {T = Unit {0}} o.before.faults o.after.faults (Err x)) (sym is) (subst (λ (n : ℕ). HasCause {T = Unit {0}} n o.after.faults (Err fault)) calm cause);
}
