-- One message, settled by two books that are alike.
use Rattle.std.proofs.Common.{◌≡◌, ℕ, ◌+◌, ◌<◌, List, [], ◌∷◌, length, Bool, false, Option, Some, None, refl, sym, ap, ◌∙◌, subst, arith}
use Rattle.dns_keeper.specs.Stamp.{IsStampOf}
use Rattle.dns_wire.specs.declared.record.Record.{Record}
use Rattle.dns_keeper.specs.declared.row.Row.{Row}
use Rattle.dns_keeper.specs.Rows.{appended}
use Rattle.dns_keeper.specs.Keeping.{KeeperOf, IsStampFor, GrowsByBatch}
use Rattle.dns_zone_map.specs.Zone.{Contents}
use Rattle.dns_update.specs.Change.{serial_after_batch}
use Rattle.dns_book.specs.declared.ask.Ask.{Ask}
use Rattle.dns_book.specs.declared.ask.Receipt.{Receipt}
use Rattle.dns_book.specs.declared.ask.Settled.{Settled}
use Rattle.dns_book.specs.Access.{Access}
use Rattle.dns_book.specs.Cases.{Decides}
use Rattle.dns_book.specs.Owed.{Grounds, OwesBytes, batch_by}
use Rattle.dns_book.specs.Counted.{zone_with}
use Rattle.dns_book.specs.Book.{SeenOf, grounds_of, Ends, idle, journalled, failed, Settles}
use Rattle.dns_laws.specs.Isolation.{AgreeOn, AreAlike, IsUnchanged}

-- what the laws of replies and of stamps give
pub record OneAnswer : Type 0 where
  pub decided : (zone : Contents) (access : Access) (ask : Ask) (a b : Option _) → Decides zone access ask a → Decides zone access ask b → a ≡ b
  pub reply : (grounds : Grounds) (access : Access) (ask : Ask) (a b : Option (List ℕ)) → OwesBytes grounds access ask a → OwesBytes grounds access ask b → a ≡ b
  pub stamp : (moment : ℕ) (a b : List ℕ) → IsStampOf moment a → IsStampOf moment b → a ≡ b

-- the rows

same_rows : OneAnswer → (old : List Row) (client serial moment : ℕ) (records : List Record) (s t : List ℕ) → IsStampFor moment records s → IsStampFor moment records t
    → appended old client serial s records ≡ appended old client serial t records
same_rows one old client serial moment [] s t a b = refl
same_rows one old client serial moment (r ∷ rs) s t a b = ap (λ (stamp : List ℕ). appended old client serial stamp (r ∷ rs)) (one.stamp moment s t a b)

agree_grown : OneAnswer → (c d a b : Option (List Row)) (client serial moment : ℕ) (records : List Record) → AgreeOn a b
    → GrowsByBatch a c client serial moment records → GrowsByBatch b d client serial moment records → AgreeOn c d
agree_grown one None d a b client serial moment records agree g h = tt
agree_grown one (Some n) None a b client serial moment records agree g h = tt
agree_grown one (Some n) (Some m) None b client serial moment records agree g h = absurd g
agree_grown one (Some n) (Some m) (Some o) None client serial moment records agree g h = absurd h
agree_grown one (Some n) (Some m) (Some o) (Some p) client serial moment records agree g h =
    g.is
    ∙ ap (λ (old : List Row). appended old client serial g.stamp records) agree
    ∙ same_rows one p client serial moment records g.stamp h.stamp g.stamped h.stamped
    ∙ sym h.is

-- what was counted is no matter
pub alike-counts : {K : Type 0} (keeper : KeeperOf K) (a b : SeenOf K) (c d : List (List ℕ)) → AreAlike keeper a b → AreAlike keeper (record a { counts = c }) (record b { counts = d })
alike-counts keeper a b c d h = record { zone = h.zone; allow_update = h.allow_update; row_count = h.row_count; told = h.told }

pub alike-unchanged : {K : Type 0} (keeper : KeeperOf K) (a b x y : SeenOf K) → IsUnchanged a x → IsUnchanged b y → AreAlike keeper a b → AreAlike keeper x y
alike-unchanged {K} keeper a b x y p q h =
    subst (λ (z : SeenOf K). AreAlike keeper z y) (sym p)
    (subst (λ (z : SeenOf K). AreAlike keeper (record a { counts = x.counts }) z) (sym q) (alike-counts keeper a b x.counts y.counts h))

-- the same batch
abbrev Grew : {K : Type 0} → KeeperOf K → K → K → Ask → Contents → List Record → Type 0
Grew keeper old new ask zone batch = GrowsByBatch (keeper.told old).rows (keeper.told new).rows ask.client (serial_after_batch zone.origin zone.records batch) ask.at batch

some_none : {T : Type 0} (a b : List T) → a ≡ b → length a ≡ 0 → 0 < length b → ⊥
some_none a b e none some = omega (arith, none, some, ap length e)

alike_ends : {K : Type 0} (keeper : KeeperOf K) → OneAnswer → (a b : SeenOf K) (ask : Ask) (xs ys : List Record) (f g : Bool) (p q : Option Receipt) (x y : SeenOf K)
    → Ends keeper a ask xs f p x → Ends keeper b ask ys g q y → f ≡ false → g ≡ false → xs ≡ ys → AreAlike keeper a b → AreAlike keeper x y
alike_ends keeper one a b ask xs ys _ _ _ _ _ _ (idle none) (idle nor) e f same h = h
alike_ends keeper one a b ask xs ys _ _ _ _ _ _ (idle none) (journalled some held grew run later) e f same h = absurd (some_none xs ys same none some)
alike_ends keeper one a b ask xs ys _ _ _ _ _ _ (idle none) (failed some held kept batches later rose) e f same h = absurd cc
alike_ends keeper one a b ask xs ys _ _ _ _ _ _ (journalled some held grew run later) (idle none) e f same h = absurd (some_none ys xs (sym same) none some)
alike_ends keeper one a b ask xs ys _ _ _ _ _ _ (journalled some held grew run later) (journalled more second grown ran since) e f same h = record {
  zone = ap (λ (z : Contents). zone_with z xs) h.zone ∙ ap (zone_with b.zone) same;
  allow_update = h.allow_update;
  row_count = ap (λ (n : ℕ). n + length xs) h.row_count ∙ ap (λ (l : List Record). b.row_count + length l) same;
  told =
      let moved : Grew keeper b.keeper second ask a.zone ys = subst (λ (z : Contents). Grew keeper b.keeper second ask z ys) (sym h.zone) grown in
      let here : Grew keeper b.keeper second ask a.zone xs = subst (λ (l : List Record). Grew keeper b.keeper second ask a.zone l) (sym same) moved in
      agree_grown one (keeper.told held).rows (keeper.told second).rows (keeper.told a.keeper).rows (keeper.told b.keeper).rows ask.client (serial_after_batch a.zone.origin a.zone.records xs) ask.at xs h.told grew here;
}
alike_ends keeper one a b ask xs ys _ _ _ _ _ _ (journalled some held grew run later) (failed more second kept batches since rose) e f same h = absurd cc
alike_ends keeper one a b ask xs ys _ _ _ _ _ _ (failed some held kept batches later rose) second e f same h = absurd cc

-- the same message

abbrev grounds_with : Contents → Bool → Bool → Grounds
grounds_with zone allow_update fails = record { zone = zone; allow_update = allow_update; failed = fails }

same_grounds : {K : Type 0} (keeper : KeeperOf K) (a b : SeenOf K) (f g : Bool) → f ≡ false → g ≡ false → AreAlike keeper a b → grounds_of a f ≡ grounds_of b g
same_grounds keeper a b f g e r h =
    ap (λ (z : Contents). grounds_with z a.allow_update f) h.zone
    ∙ ap (λ (u : Bool). grounds_with b.zone u f) h.allow_update
    ∙ ap (grounds_with b.zone b.allow_update) (e ∙ sym r)

pub Settles-alike : {K : Type 0} (keeper : KeeperOf K) → OneAnswer → (access : Access) (ask : Ask) (a x b y : SeenOf K) (first second : Settled)
    → (s : Settles keeper access a ask first x) → (t : Settles keeper access b ask second y) → s.failed ≡ false → t.failed ≡ false → AreAlike keeper a b
    → (first.reply ≡ second.reply) × AreAlike keeper x y
Settles-alike {K} keeper one access ask a x b y first second s t e f h =
    let grounds : grounds_of a s.failed ≡ grounds_of b t.failed = same_grounds keeper a b s.failed t.failed e f h in
    let decision : s.reply.decision ≡ t.reply.decision =
    one.decided b.zone access ask s.reply.decision t.reply.decision (subst (λ (z : Contents). Decides z access ask s.reply.decision) h.zone s.reply.decided) t.reply.decided in
    let batch : batch_by a.zone a.allow_update s.reply.decision ≡ batch_by b.zone b.allow_update t.reply.decision =
    ap (λ (z : Contents). batch_by z a.allow_update s.reply.decision) h.zone
    ∙ ap (λ (u : Bool). batch_by b.zone u s.reply.decision) h.allow_update
    ∙ ap (batch_by b.zone b.allow_update) decision in
    let ended : AreAlike keeper s.ended t.ended =
    alike_ends keeper one a b ask (batch_by a.zone a.allow_update s.reply.decision) (batch_by b.zone b.allow_update t.reply.decision) s.failed t.failed first.receipt second.receipt s.ended t.ended s.ends t.ends e f batch h in (
      one.reply (grounds_of b t.failed) access ask first.reply second.reply (subst (λ (g : Grounds). OwesBytes g access ask first.reply) grounds s.reply) t.reply,
      rw (s.counted, t.counted) (record { zone = ended.zone; allow_update = ended.allow_update; row_count = ended.row_count; told = ended.told }),
    )
