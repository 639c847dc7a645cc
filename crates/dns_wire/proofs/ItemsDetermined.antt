-- At most one question, record, section and message stands at a place, and reading fails at one place at most.
use Rattle.std.proofs.Common.{◌≡◌, ℕ, ◌+◌, ◌-◌, ◌<◌, ◌≤◌, List, [], ◌∷◌, ◌++◌, length, refl, sym, ap, subst, ◌∙◌, arith, ◌⊎◌, inl, inr}
use Rattle.std.proofs.lemmas.Bool.{cases_order}
use Rattle.dns_wire.specs.declared.question.Question.{Question}
use Rattle.dns_wire.specs.declared.record.Record.{Record}
use Rattle.dns_wire.specs.declared.rdata.Data.{Data}
use Rattle.dns_wire.specs.declared.rdata.Data.TheVariants.{Ns, Cname, Ptr, Mx, Txt}
use Rattle.dns_wire.specs.declared.rdata.Form.{Form}
use Rattle.dns_wire.specs.declared.rdata.Form.TheVariants as form
use Rattle.dns_wire.specs.Forms.{form_of}
use Rattle.dns_wire.specs.Standing.{QuestionAt, RecordAt, FormAt, DataAt, word_at, long_at, srv_at}
use Rattle.dns_wire.specs.Sections.{ItemsAt, Section, StopsAt}
use Rattle.dns_name.proofs.Wire.{labels_bytes_same}
use Rattle.dns_name.proofs.Stands.{StandsAt-one}
use Rattle.dns_wire.proofs.Soas.{soa_reads}
use Rattle.dns_wire.proofs.ItemsRead.{ReadSoFar, ReadSoFar-done, ReadSoFar-stops}

question_same : (n o : List (List ℕ)) (t u c d : ℕ) → n ≡ o → t ≡ u → c ≡ d → ◌≡◌ {A = Question} (record { name = n; qtype = t; qclass = c }) (record { name = o; qtype = u; qclass = d })
question_same n o t u c d p q r = rw (p, q, r) refl

pub QuestionAt-one : (m : List ℕ) (i j k : ℕ) (a b : Question) → QuestionAt m i a j → QuestionAt m i b k → (a ≡ b) × (j ≡ k)
QuestionAt-one m i j k a b x y =
    let p = StandsAt-one m i x.end y.end a.name b.name x.name y.name in (
      question_same a.name b.name a.qtype b.qtype a.qclass b.qclass p.0 (x.qtype ∙ ap (λ (e : ℕ). word_at m e) p.1 ∙ sym y.qtype) (x.qclass ∙ ap (λ (e : ℕ). word_at m (e + 2)) p.1 ∙ sym y.qclass),
      x.after ∙ ap (λ (e : ℕ). e + 4) p.1 ∙ sym y.after,
    )

-- data of one form that takes the bytes from one place to another is determined
FormAt-one : (f : Form) (m : List ℕ) (i j : ℕ) (a b : Data) → FormAt f m i j a → FormAt f m i j b → a ≡ b
FormAt-one form.A m i j a b x y = x.1 ∙ sym y.1
FormAt-one form.Aaaa m i j a b x y = x.1 ∙ sym y.1
FormAt-one form.Ns m i j a b x y = x.2 ∙ ap Ns (StandsAt-one m i j j x.0 y.0 x.1 y.1).0 ∙ sym y.2
FormAt-one form.Cname m i j a b x y = x.2 ∙ ap Cname (StandsAt-one m i j j x.0 y.0 x.1 y.1).0 ∙ sym y.2
FormAt-one form.Ptr m i j a b x y = x.2 ∙ ap Ptr (StandsAt-one m i j j x.0 y.0 x.1 y.1).0 ∙ sym y.2
FormAt-one form.Mx m i j a b x y =
    x.2 ∙ ap (λ (n : List (List ℕ)). Mx (word_at m i) n) (StandsAt-one m (i + 2) j j x.0 y.0 x.1 y.1).0 ∙ sym y.2
FormAt-one form.Srv m i j a b x y =
    x.2 ∙ ap (λ (n : List (List ℕ)). srv_at m i n) (StandsAt-one m (i + 6) j j x.0 y.0 x.1 y.1).0 ∙ sym y.2
FormAt-one form.Soa m i j a b x y = (soa_reads m i j x.mname x.rname x.middle x.end a x.first x.second x.after x.is).only b y
FormAt-one form.Txt m i j a b x y = let p : x.0 ≡ y.0 = labels_bytes_same x.0 y.0 (sym x.2 ∙ y.2) in x.3 ∙ ap Txt p ∙ sym y.3
FormAt-one form.Opaque m i j a b x y = x ∙ sym y
FormAt-one form.Empty m i j a b x y = x ∙ sym y

record_same : (n o : List (List ℕ)) (t u c d l k : ℕ) (a b : Data) → n ≡ o → t ≡ u → c ≡ d → l ≡ k → a ≡ b → ◌≡◌ {A = Record} (record { name = n; rtype = t; class = c; ttl = l; rdata = a }) (record { name = o; rtype = u; class = d; ttl = k; rdata = b })
record_same n o t u c d l k a b p q r s v = rw (p, q, r, s, v) refl

pub RecordAt-one : (m : List ℕ) (i j k : ℕ) (a b : Record) → RecordAt m i a j → RecordAt m i b k → (a ≡ b) × (j ≡ k)
RecordAt-one m i j k a b x y =
    let p = StandsAt-one m i x.end y.end a.name b.name x.name y.name in
    let t : a.rtype ≡ b.rtype = x.rtype ∙ ap (λ (e : ℕ). word_at m e) p.1 ∙ sym y.rtype in
    let c : a.class ≡ b.class = x.class ∙ ap (λ (e : ℕ). word_at m (e + 2)) p.1 ∙ sym y.class in
    let l : a.ttl ≡ b.ttl = x.ttl ∙ ap (λ (e : ℕ). long_at m (e + 4)) p.1 ∙ sym y.ttl in
    let ends : j ≡ k = x.after ∙ ap (λ (e : ℕ). e + 10 + word_at m (e + 8)) p.1 ∙ sym y.after in
    let d : DataAt m a.rtype (y.end + 10) k b.rdata = subst (λ (z : ℕ). DataAt m z (y.end + 10) k b.rdata) (sym t) y.«data» in
    let e : DataAt m a.rtype (x.end + 10) k b.rdata = subst (λ (z : ℕ). DataAt m a.rtype (z + 10) k b.rdata) (sym p.1) d in
    let f : DataAt m a.rtype (x.end + 10) j b.rdata = subst (λ (z : ℕ). DataAt m a.rtype (x.end + 10) z b.rdata) (sym ends) e in
    let same : a.rdata ≡ b.rdata = FormAt-one (form_of a.rtype (j - (x.end + 10))) m (x.end + 10) j a.rdata b.rdata x.«data» f in
    (record_same a.name b.name a.rtype b.rtype a.class b.class a.ttl b.ttl a.rdata b.rdata p.0 t c l same, ends)

-- whatever reads at a place is one thing
abbrev pub One : {X : Type 0} → (ℕ → X → ℕ → Type 0) → Type 0
One {X} At = (i j k : ℕ) (x y : X) → At i x j → At i y k → (x ≡ y) × (j ≡ k)

-- the front of items that obey a rule obeys it
abbrev pub IsClosed : {X : Type 0} → (List X → Type 0) → Type 0
IsClosed {X} Obeys = (xs ys : List X) → Obeys (xs ++ ys) → Obeys xs

module _ {X : Type 0} (At : ℕ → X → ℕ → Type 0) (one : One At) where
  -- of two runs from a place the longer one goes on where the shorter one ends
  ahead : (xs ys : List X) (i j k : ℕ) → ItemsAt At i xs j → ItemsAt At i ys k → length xs ≤ length ys → (more : List X) × (ys ≡ xs ++ more) × ItemsAt At j more k
  ahead [] ys i j k a b h = (ys, refl, subst (λ (z : ℕ). ItemsAt At z ys k) (sym a) b)
  ahead (x ∷ xs) [] i j k a b h = absurd (omega arith)
  ahead (x ∷ xs) (y ∷ ys) i j k a b h =
      let p = one i a.0 b.0 x y a.1 b.1 in
      let r = ahead xs ys a.0 j k a.2 (subst (λ (z : ℕ). ItemsAt At z ys k) (sym p.1) b.2) (omega arith) in
      (r.0, ap (λ (z : X). z ∷ ys) (sym p.0) ∙ ap (λ (zs : List X). x ∷ zs) r.1, r.2)

  pub ReadSoFar-of : (i at : ℕ) (items : List X) → ItemsAt At i items at → ReadSoFar At i items at
  ReadSoFar-of i at items a = record { forth = a; back = λ xs j b h. ahead items xs i at j a b h }

  module _ (Obeys : List X → Type 0) (i n : ℕ) where
    pub Section-one : (xs ys : List X) (j k : ℕ) → Section At Obeys i n xs j → Section At Obeys i n ys k → (xs ≡ ys) × (j ≡ k)
    Section-one xs ys j k s t = (ReadSoFar-done (ReadSoFar-of i j xs s.stand) Obeys n s.obey s.count).1 ys k t

    module _ (closed : IsClosed Obeys) where
      -- a section that stands doesn't stop
      pub Stops-refuted : (at : ℕ) (ys : List X) (k : ℕ) → StopsAt At Obeys i n at → Section At Obeys i n ys k → ⊥
      Stops-refuted at ys k s t = (ReadSoFar-stops (ReadSoFar-of i at s.items s.stand) Obeys n s.obey s.fewer s.none closed).1 ys k t

      -- no run that stops is shorter than another that obeys the rule
      past : (a b : ℕ) (s : StopsAt At Obeys i n a) (t : StopsAt At Obeys i n b) → length s.items < length t.items → ⊥
      past a b s t h =
          (ReadSoFar-stops (ReadSoFar-of i a s.items s.stand) Obeys (length t.items) s.obey h s.none closed).1 t.items b (record { stand = t.stand; obey = t.obey; count = refl })

      pub Stops-one : (a b : ℕ) → StopsAt At Obeys i n a → StopsAt At Obeys i n b → a ≡ b
      Stops-one a b s t = go (cases_order (length s.items) (length t.items))
        where
          go : (length s.items ≡ length t.items) ⊎ ((length s.items < length t.items) ⊎ (length t.items < length s.items)) → a ≡ b
          go (inl e) = ((ReadSoFar-done (ReadSoFar-of i a s.items s.stand) Obeys (length t.items) s.obey e).1 t.items b (record { stand = t.stand; obey = t.obey; count = refl })).1
          go (inr (inl h)) = absurd (past a b s t h)
          go (inr (inr h)) = absurd (past b a t s h)

-- where reading fails: in this section, or it stands and reading fails in what follows
abbrev pub Stage : {X : Type 0} → (ℕ → X → ℕ → Type 0) → (List X → Type 0) → ℕ → ℕ → (ℕ → ℕ → Type 0) → ℕ → Type 0
Stage {X} At Obeys i n Next at = StopsAt At Obeys i n at ⊎ ((xs : List X) × (j : ℕ) × Section At Obeys i n xs j × Next j at)

module _ {X : Type 0} (At : ℕ → X → ℕ → Type 0) (one : One At) (Obeys : List X → Type 0) (closed : IsClosed Obeys) (i n : ℕ) (Next : ℕ → ℕ → Type 0) where
  pub Stage-one : ((j a b : ℕ) → Next j a → Next j b → a ≡ b) → (a b : ℕ) → Stage At Obeys i n Next a → Stage At Obeys i n Next b → a ≡ b
  Stage-one next a b (inl s) (inl t) = Stops-one At one Obeys i n closed a b s t
  Stage-one next a b (inl s) (inr t) = absurd (Stops-refuted At one Obeys i n closed a t.0 t.1 s t.2)
  Stage-one next a b (inr s) (inl t) = absurd (Stops-refuted At one Obeys i n closed b s.0 s.1 t s.2)
  Stage-one next a b (inr s) (inr t) =
      let p = Section-one At one Obeys i n s.0 t.0 s.1 t.1 s.2 t.2 in
      next s.1 a b s.3 (subst (λ (z : ℕ). Next z b) (sym p.1) t.3)

  pub Stage-refuted : (xs : List X) (j at : ℕ) → Section At Obeys i n xs j → (Next j at → ⊥) → Stage At Obeys i n Next at → ⊥
  Stage-refuted xs j at s not (inl t) = Stops-refuted At one Obeys i n closed at xs j t s
  Stage-refuted xs j at s not (inr t) =
      let p = Section-one At one Obeys i n xs t.0 j t.1 s t.2 in
      not (subst (λ (z : ℕ). Next z at) (sym p.1) t.3)
