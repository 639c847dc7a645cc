-- One message stands in bytes, or reading fails at one place.
use Rattle.std.proofs.Common.{◌≡◌, ℕ, ◌<◌, List, length, refl, sym, subst, ◌∙◌, Option, Some, None, inl, inr}
use Rattle.std.proofs.lemmas.Bool.{lt-ltb}
use Rattle.std.proofs.lemmas.Option.{same_Some}
use Rattle.dns_wire.specs.declared.header.Header.{Header}
use Rattle.dns_wire.specs.declared.question.Question.{Question}
use Rattle.dns_wire.specs.declared.record.Record.{Record}
use Rattle.dns_wire.specs.declared.edns.Edns.{Edns}
use Rattle.dns_wire.specs.declared.message.Message.{Message}
use Rattle.dns_wire.specs.Header.{header_of}
use Rattle.dns_wire.specs.Standing.{QuestionAt, RecordAt}
use Rattle.dns_wire.specs.Sections.{StopsAt}
use Rattle.dns_wire.specs.Messages.{Free, HasNoOpt, HasRootOpt, ExtraAt, MessageAt, FailsAt, short, in_questions, in_answers, in_authority, in_additional}
use Rattle.dns_wire.proofs.Rules.{HasNoOpt-front}
use Rattle.dns_wire.proofs.Extra.{HasRootOpt-front, Extra-done}
use Rattle.dns_wire.proofs.MessageAnswer.{reads_message}
use Rattle.dns_wire.proofs.ItemsDetermined.{QuestionAt-one, RecordAt-one, One, IsClosed, ReadSoFar-of, Section-one, Stops-refuted, Stops-one, Stage, Stage-one, Stage-refuted}

module _ (m : List ℕ) where
  -- where reading fails, section by section
  abbrev InAdditional : Header → ℕ → ℕ → Type 0
  InAdditional h k at = StopsAt (RecordAt m) HasRootOpt k h.additional at

  abbrev InAuthority : Header → ℕ → ℕ → Type 0
  InAuthority h j at = Stage (RecordAt m) HasNoOpt j h.authority (InAdditional h) at

  abbrev InAnswers : Header → ℕ → ℕ → Type 0
  InAnswers h i at = Stage (RecordAt m) HasNoOpt i h.answers (InAuthority h) at

  abbrev InQuestions : Header → ℕ → Type 0
  InQuestions h at = Stage (QuestionAt m) Free 12 h.questions (InAnswers h) at

  questions : One (QuestionAt m)
  questions i j k x y a b = QuestionAt-one m i j k x y a b

  records : One (RecordAt m)
  records i j k x y a b = RecordAt-one m i j k x y a b

  free : IsClosed {X = Question} Free
  free xs ys h = tt

  short_head : (h : Header) → header_of m ≡ Some h → length m < 12 → ⊥
  short_head h e l =
      let t = lt-ltb (length m) 12 l in
      let none = rw t at e in
      cc

  staged : (h : Header) → header_of m ≡ Some h → (at : ℕ) → FailsAt m at → InQuestions h at
  staged h e at (short l) = absurd (short_head h e l)
  staged h e at (in_questions {h = g} f s) = subst (λ (z : Header). InQuestions z at) (same_Some _ _ (sym f ∙ e)) (inl s)
  staged h e at (in_answers {h = g} {qs} {i} f q s) =
      subst (λ (z : Header). InQuestions z at) (same_Some _ _ (sym f ∙ e)) (inr (qs, i, q, inl s))
  staged h e at (in_authority {h = g} {qs} {xs} {i} {j} f q x s) =
      subst (λ (z : Header). InQuestions z at) (same_Some _ _ (sym f ∙ e)) (inr (qs, i, q, inr (xs, j, x, inl s)))
  staged h e at (in_additional {h = g} {qs} {xs} {ys} {i} {j} {k} f q x y s) =
      subst (λ (z : Header). InQuestions z at) (same_Some _ _ (sym f ∙ e)) (inr (qs, i, q, inr (xs, j, x, inr (ys, k, y, s))))

  additional_one : (h : Header) (k a b : ℕ) → InAdditional h k a → InAdditional h k b → a ≡ b
  additional_one h k a b s t = Stops-one (RecordAt m) records HasRootOpt k h.additional HasRootOpt-front a b s t

  authority_one : (h : Header) (j a b : ℕ) → InAuthority h j a → InAuthority h j b → a ≡ b
  authority_one h j a b s t = Stage-one (RecordAt m) records HasNoOpt HasNoOpt-front j h.authority (InAdditional h) (additional_one h) a b s t

  answers_one : (h : Header) (i a b : ℕ) → InAnswers h i a → InAnswers h i b → a ≡ b
  answers_one h i a b s t = Stage-one (RecordAt m) records HasNoOpt HasNoOpt-front i h.answers (InAuthority h) (authority_one h) a b s t

  questions_one : (h : Header) (a b : ℕ) → InQuestions h a → InQuestions h b → a ≡ b
  questions_one h a b s t = Stage-one (QuestionAt m) questions Free free 12 h.questions (InAnswers h) (answers_one h) a b s t

  at_zero : (a : ℕ) → header_of m ≡ None → FailsAt m a → a ≡ 0
  at_zero a e (short l) = refl
  at_zero a e (in_questions f s) = absurd (let t = sym e ∙ f in cc)
  at_zero a e (in_answers f q s) = absurd (let t = sym e ∙ f in cc)
  at_zero a e (in_authority f q x s) = absurd (let t = sym e ∙ f in cc)
  at_zero a e (in_additional f q x y s) = absurd (let t = sym e ∙ f in cc)

  fails_one : (o : Option Header) → header_of m ≡ o → (a b : ℕ) → FailsAt m a → FailsAt m b → a ≡ b
  fails_one None e a b f g = at_zero a e f ∙ sym (at_zero b e g)
  fails_one (Some h) e a b f g = questions_one h a b (staged h e a f) (staged h e b g)

  -- the additional section is one
  Extra-one : (k n : ℕ) (x y : List Record × Option Edns) (j l : ℕ) → ExtraAt m k n x j → ExtraAt m k n y l → (x ≡ y) × (j ≡ l)
  Extra-one k n x y j l s t = (Extra-done (ReadSoFar-of (RecordAt m) records k j s.0 s.1.stand) x.1 s.2 s.1.count).1 y l t

  pub messages_one : (a b : Message) → MessageAt m a → MessageAt m b → a ≡ b
  messages_one a b s t =
      (
      reads_message m s.header a.questions s.i
      (s.questions, λ ys k u. Section-one (QuestionAt m) questions Free 12 a.header.questions a.questions ys s.i k s.questions u)
      a.answers s.j
      (s.answers, λ ys k u. Section-one (RecordAt m) records HasNoOpt s.i a.header.answers a.answers ys s.j k s.answers u)
      a.authority s.k
      (s.authority, λ ys k u. Section-one (RecordAt m) records HasNoOpt s.j a.header.authority a.authority ys s.k k s.authority u)
      a.additional a.edns s.end
      (s.additional, λ y l u. Extra-one s.k a.header.additional (a.additional, a.edns) y s.end l s.additional u)
      ).1 b t

  pub message_or_place : (a : Message) (at : ℕ) → MessageAt m a → FailsAt m at → ⊥
  message_or_place a at s f =
      Stage-refuted (QuestionAt m) questions Free free 12 a.header.questions (InAnswers a.header) a.questions s.i at s.questions
      (Stage-refuted (RecordAt m) records HasNoOpt HasNoOpt-front s.i a.header.answers (InAuthority a.header) a.answers s.j at s.answers
      (Stage-refuted (RecordAt m) records HasNoOpt HasNoOpt-front s.j a.header.authority (InAdditional a.header) a.authority s.k at s.authority
      (λ stop. Stops-refuted (RecordAt m) records HasRootOpt s.k a.header.additional HasRootOpt-front at s.additional.0 s.end stop s.additional.1)))
      (staged a.header s.header at f)

pub place_one : (m : List ℕ) (a b : ℕ) → FailsAt m a → FailsAt m b → a ≡ b
place_one m a b f g = fails_one m (header_of m) refl a b f g
