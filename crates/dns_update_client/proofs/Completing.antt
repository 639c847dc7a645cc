-- Of what the program was given nothing is at fault: then it ends with the codes, or for want of memory.
use Rattle.std.proofs.Common.{◌≡◌, ℕ, ◌≤◌, List, ◌++◌, inl, inr, length, Option, Some, None, IsSome, Result, Ok, Err, refl, sym, ap, subst, ◌∙◌, length-append, arith}
use Rattle.std.proofs.lemmas.Option.{same_Some}
use Rattle.dns_io.specs.Told.{Told, WasLonger}
use Rattle.dns_wire.specs.declared.message.Message.{Message}
use Rattle.dns_update_script.specs.declared.script.Sending.{Sending}
use Rattle.dns_update_script.specs.Script.{script_of}
use Rattle.dns_update_script.specs.Meant.{meant_by}
use Rattle.dns_update_client.specs.declared.settings.Settings.{Settings}
use Rattle.dns_update_client.specs.declared.status.UpdateStatus.{UpdateStatus}
use Rattle.dns_update_client.specs.declared.status.UpdateStatus.TheVariants as status
use Rattle.dns_update_client.specs.declared.submit_fault.SubmitFault.{SubmitFault}
use Rattle.dns_update_client.specs.declared.submit_fault.SubmitFault.TheVariants as submit
use Rattle.dns_update_client.specs.Status.{submit_status}
use Rattle.dns_update_client.specs.Framed.{frames_of}
use Rattle.dns_update_client.specs.Exchange.{Answers, StopsAt, IsDecided}
use Rattle.dns_update_client.specs.World.{World}
use Rattle.dns_update_client.specs.Steps.{script_bound, LoadsScript, LoadsNoScript, script_unread, script_too_long, script_refused, script_without_memory, SubmitsNot, IsRefused, at_words, at_script, at_messages, at_submit}
use Rattle.dns_update_client.specs.Ends.{Ends, with_lines, with_refusal, without_line, with_write_fault, cut_for_memory}
use Rattle.dns_update_client.specs.Completeness.{IsSound, Completes}
use Rattle.dns_update_client.proofs.Unique.{Answers-not}

abbrev value_or : {A E : Type 0} → A → Result A E → A
value_or d (Ok a) = a
value_or d (Err e) = d

same_Ok : {A E : Type 0} (r : Result A E) (a b : A) → r ≡ Ok a → r ≡ Ok b → a ≡ b
same_Ok r a b p q = ap (value_or a) (sym p ∙ q)

-- what is told, of content that is known
told : {A B : Type 0} (R : A → B → Type 0) (before : Option A) (after : Option B) (a : A) → before ≡ Some a → IsSome after → Told R before after → (b : B) × R a b
told R None after a is some t = absurd cc
told R (Some x) None a is some t = absurd cc
told R (Some x) (Some y) a is some t = (y, subst (λ (z : _). R z y) (same_Some _ _ is) t)

-- a text within its bound is not longer
not_longer : (before after : Option (List ℕ)) (text : List ℕ) (bound : ℕ) → before ≡ Some text → IsSome after → length text ≤ bound → WasLonger before after bound → ⊥
not_longer before after text bound is some short longer =
    let t = told _ before after text is some longer in
    omega (arith, short, t.1.2, ap length t.1.1, length-append t.1.0 t.0)

-- messages that are answered do not stop for a cause that the input decides
not_stopped : (messages : List Message) (codes left rest : List ℕ) (before after p q : Option (List ℕ)) (fault : SubmitFault) → before ≡ Some left → IsSome after
    → Answers messages codes (Some left) (Some rest) None None → StopsAt messages fault before after p q → IsDecided fault → ⊥
not_stopped messages codes left rest before None p q fault is some answers stops decided = absurd cc
not_stopped messages codes left rest before (Some y) p q fault is some answers stops decided =
    Answers-not messages codes left rest y fault None None p q answers (subst (λ (b : Option (List ℕ)). StopsAt messages fault b (Some y) p q) is stops) decided

module _ (w : World) (x : IsSound w) where
  of_script : (s : UpdateStatus) → LoadsNoScript w.script s → s ≡ status.OutOfMemory
  of_script s (script_unread rose) = absurd (x.faultless.script rose)
  of_script s (script_too_long longer calm) = absurd (not_longer w.script.before.left w.script.after.left x.script.text script_bound x.script.told x.told.script x.script.short longer)
  of_script s (script_refused line kind read calm) =
      let f = told _ w.script.before.left w.script.after.left x.script.text x.script.told x.told.script read in
      absurd (let good = x.script.meant in let bad = f.1.1.1 in cc)
  of_script s (script_without_memory calm) = refl

  -- the sendings that were read are those of the script
  same_sendings : (sendings : List Sending) → LoadsScript w.script sendings → sendings ≡ x.sendings
  same_sendings sendings read =
      let f = told _ w.script.before.left w.script.after.left x.script.text x.script.told x.told.script read.text in
      same_Ok (script_of x.script.text) _ _ f.1.1.1 x.script.meant

  -- the messages are all answered
  abbrev messages : List Message
  messages = meant_by x.sendings x.settings.first_id

  answers : Answers messages x.replies.codes (Some (frames_of x.replies.replies ++ x.replies.rest)) (Some x.replies.rest) None None
  answers = record { replies = x.replies.replies; answered = x.replies.exchanged; received = refl; sent = tt }

  none_stopped : (fault : SubmitFault) → SubmitsNot messages w.input w.output fault → IsDecided fault → ⊥
  none_stopped fault not decided =
      not_stopped messages x.replies.codes (frames_of x.replies.replies ++ x.replies.rest) x.replies.rest w.input.before.left w.input.after.left w.output.before.taken w.output.after.taken fault x.replies.told x.told.input answers not.stopped decided

  of_submit : (fault : SubmitFault) → SubmitsNot messages w.input w.output fault → submit_status fault ≡ status.OutOfMemory
  of_submit submit.Read not = absurd (x.faultless.input not.read)
  of_submit submit.Write not = absurd (x.faultless.output not.written)
  of_submit submit.OutOfMemory not = refl
  of_submit (submit.Proto error) not = absurd (none_stopped (submit.Proto error) not tt)
  of_submit (submit.Ended message) not = absurd (none_stopped (submit.Ended message) not tt)
  of_submit (submit.Mismatch want got) not = absurd (none_stopped (submit.Mismatch want got) not tt)
  of_submit (submit.NotReply id) not = absurd (none_stopped (submit.NotReply id) not tt)

  of_refusal : (s : UpdateStatus) → IsRefused w.words w.script w.input w.output s → s ≡ status.OutOfMemory
  of_refusal s (at_words none a b c) = absurd (let some = x.legal in cc)
  of_refusal s (at_script settings legal loads a b) = of_script s loads
  of_refusal s (at_messages settings sendings legal loads a b) = refl
  of_refusal s (at_submit {fault} settings sendings legal loads not) =
      let same : settings ≡ x.settings = same_Some _ _ (sym legal ∙ x.legal) in
      let sent : meant_by sendings settings.first_id ≡ messages =
      ap (λ (l : List Sending). meant_by l settings.first_id) (same_sendings sendings loads) ∙ ap (λ (o : Settings). meant_by x.sendings o.first_id) same in
      of_submit fault (subst (λ (m : List Message). SubmitsNot m w.input w.output fault) sent not)

pub completes : (w : World) (s : UpdateStatus) → Ends w s → Completes w s
completes w s (with_lines text answered written) x = inl refl
completes w s (with_refusal some refuses written) x = inr (of_refusal w x s refuses)
completes w s (without_line none refuses unwritten) x = inr (of_refusal w x s refuses)
completes w s (with_write_fault rose cut) x = absurd (x.faultless.out rose)
completes w s (cut_for_memory cut) x = inr refl
