-- What reading a message answers, from what reading its sections answered.
use Rattle.std.proofs.Common.{◌≡◌, ℕ, ◌<◌, List, length, refl, sym, ap, subst, ◌∙◌, Bool, true, false, Option, Some, None, Ok, Err}
use Rattle.std.specs.Prelude.{nat_lt, if◌then◌else◌}
use Rattle.std.proofs.lemmas.Bool.{ltb-true}
use Rattle.std.proofs.lemmas.Option.{same_Some}
use Rattle.dns_name.specs.declared.fault.ProtoError.{ProtoError}
use Rattle.dns_name.specs.declared.fault.ProtoError.TheVariants.{OutsideGrammar, OutOfMemory}
use Rattle.dns_wire.specs.declared.header.Header.{Header}
use Rattle.dns_wire.specs.declared.question.Question.{Question}
use Rattle.dns_wire.specs.declared.record.Record.{Record}
use Rattle.dns_wire.specs.declared.edns.Edns.{Edns}
use Rattle.dns_wire.specs.declared.message.Message.{Message}
use Rattle.dns_wire.specs.Header.{header_of}
use Rattle.dns_wire.specs.Standing.{QuestionAt, RecordAt}
use Rattle.dns_wire.specs.Sections.{Section, StopsAt, Answers}
use Rattle.dns_wire.specs.Messages.{Free, HasNoOpt, HasRootOpt, ExtraAt, MessageAt, short, in_questions, in_answers, in_authority, in_additional, AnswersMessage}

-- what a section's reader said of what it read
abbrev pub Only : {X : Type 0} → (X → ℕ → Type 0) → X → ℕ → Type 0
Only {X} At x j = At x j × ((y : X) (k : ℕ) → At y k → (x ≡ y) × (j ≡ k))

module _ (m : List ℕ) {h : Header} (head : header_of m ≡ Some h) where
  same : (other : Message) → MessageAt m other → h ≡ other.header
  same other o = same_Some _ _ (sym head ∙ o.header)

  questions_of : (other : Message) → (o : MessageAt m other) → Section (QuestionAt m) Free 12 h.questions other.questions o.i
  questions_of other o = subst (λ (z : Header). Section (QuestionAt m) Free 12 z.questions other.questions o.i) (sym (same other o)) o.questions

  pub fails_in_questions : (e : ProtoError) → Answers (Section (QuestionAt m) Free 12 h.questions) (StopsAt (QuestionAt m) Free 12 h.questions) (Err e) → AnswersMessage m (Err e)
  fails_in_questions (OutsideGrammar at) a = (in_questions head a.0, λ other o. a.1 other.questions o.i (questions_of other o))
  fails_in_questions OutOfMemory a = tt
  fails_in_questions _ a = absurd a

  module _ (qs : List Question) (i : ℕ) (q : Only (Section (QuestionAt m) Free 12 h.questions) qs i) where
    answers_of : (other : Message) → (o : MessageAt m other) → Section (RecordAt m) HasNoOpt i h.answers other.answers o.j
    answers_of other o =
        let t = q.1 other.questions o.i (questions_of other o) in
        subst (λ (z : Header). Section (RecordAt m) HasNoOpt i z.answers other.answers o.j) (sym (same other o))
        (subst (λ (z : ℕ). Section (RecordAt m) HasNoOpt z other.header.answers other.answers o.j) (sym t.1) o.answers)

    pub fails_in_answers : (e : ProtoError) → Answers (Section (RecordAt m) HasNoOpt i h.answers) (StopsAt (RecordAt m) HasNoOpt i h.answers) (Err e) → AnswersMessage m (Err e)
    fails_in_answers (OutsideGrammar at) a = (in_answers head q.0 a.0, λ other o. a.1 other.answers o.j (answers_of other o))
    fails_in_answers OutOfMemory a = tt
    fails_in_answers _ a = absurd a

    module _ (xs : List Record) (j : ℕ) (x : Only (Section (RecordAt m) HasNoOpt i h.answers) xs j) where
      authority_of : (other : Message) → (o : MessageAt m other) → Section (RecordAt m) HasNoOpt j h.authority other.authority o.k
      authority_of other o =
          let t = x.1 other.answers o.j (answers_of other o) in
          subst (λ (z : Header). Section (RecordAt m) HasNoOpt j z.authority other.authority o.k) (sym (same other o))
          (subst (λ (z : ℕ). Section (RecordAt m) HasNoOpt z other.header.authority other.authority o.k) (sym t.1) o.authority)

      pub fails_in_authority : (e : ProtoError) → Answers (Section (RecordAt m) HasNoOpt j h.authority) (StopsAt (RecordAt m) HasNoOpt j h.authority) (Err e) → AnswersMessage m (Err e)
      fails_in_authority (OutsideGrammar at) a = (in_authority head q.0 x.0 a.0, λ other o. a.1 other.authority o.k (authority_of other o))
      fails_in_authority OutOfMemory a = tt
      fails_in_authority _ a = absurd a

      module _ (ys : List Record) (k : ℕ) (y : Only (Section (RecordAt m) HasNoOpt j h.authority) ys k) where
        extra_of : (other : Message) → (o : MessageAt m other) → ExtraAt m k h.additional (other.additional, other.edns) o.end
        extra_of other o =
            let t = y.1 other.authority o.k (authority_of other o) in
            subst (λ (z : Header). ExtraAt m k z.additional (other.additional, other.edns) o.end) (sym (same other o))
            (subst (λ (z : ℕ). ExtraAt m z other.header.additional (other.additional, other.edns) o.end) (sym t.1) o.additional)

        pub fails_in_additional : (e : ProtoError) → Answers (ExtraAt m k h.additional) (StopsAt (RecordAt m) HasRootOpt k h.additional) (Err e) → AnswersMessage m (Err e)
        fails_in_additional (OutsideGrammar at) a = (in_additional head q.0 x.0 y.0 a.0, λ other o. a.1 (other.additional, other.edns) o.end (extra_of other o))
        fails_in_additional OutOfMemory a = tt
        fails_in_additional _ a = absurd a

        pub reads_message : (zs : List Record) (edns : Option Edns) (l : ℕ) → Only (ExtraAt m k h.additional) (zs, edns) l → AnswersMessage m (Ok (record { header = h; questions = qs; answers = xs; authority = ys; additional = zs; edns = edns }))
        reads_message zs edns l z = (
          record { header = head; i = i; j = j; k = k; end = l; questions = q.0; answers = x.0; authority = y.0; additional = z.0 },
          λ other o.
              let a : h ≡ other.header = same other o in
              let b : qs ≡ other.questions = (q.1 other.questions o.i (questions_of other o)).0 in
              let c : xs ≡ other.answers = (x.1 other.answers o.j (answers_of other o)).0 in
              let d : ys ≡ other.authority = (y.1 other.authority o.k (authority_of other o)).0 in
              let e = (z.1 (other.additional, other.edns) o.end (extra_of other o)).0 in
              let f : zs ≡ other.additional = ap (λ (p : List Record × Option Edns). p.0) e in
              let g : edns ≡ other.edns = ap (λ (p : List Record × Option Edns). p.1) e in
              whole other a b c d f g,
        )
          where
            whole : (other : Message) → h ≡ other.header → qs ≡ other.questions → xs ≡ other.answers → ys ≡ other.authority → zs ≡ other.additional → edns ≡ other.edns → ◌≡◌ {A = Message} (record { header = h; questions = qs; answers = xs; authority = ys; additional = zs; edns = edns }) other
            whole other a b c d f g = rw (a, b, c, d, f, g) refl

short_of : (b : Bool) (m : List ℕ) (x : Header) → nat_lt (length m) 12 ≡ b → (if b then None else Some x) ≡ None → length m < 12
short_of true m x e h = ltb-true _ _ e
short_of false m x e h = cc

pub none_stands : {m : List ℕ} → header_of m ≡ None → AnswersMessage m (Err (OutsideGrammar 0))
none_stands {m} e = (short (short_of (nat_lt (length m) 12) m _ refl e), λ other o. let t = sym e ∙ o.header in cc)
