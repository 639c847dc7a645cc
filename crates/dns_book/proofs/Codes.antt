-- The codes of verdicts stand in the header alone (RFC 2136 2.2), and none is ServFail.
use Rattle.std.proofs.Common.{◌≡◌, ◌≢◌, ℕ, ◌<◌, List, [], ◌∷◌, Bool, true, false, not, nat_lt, ◌==◌, ◌&&◌, if◌then◌else◌, arith, refl, sym, subst}
use Rattle.std.proofs.lemmas.Bool.{ltb-true, false≢true}
use Rattle.dns_name.specs.Name.{is_same_name, is_at_or_below}
use Rattle.dns_wire.specs.declared.question.Question.{Question}
use Rattle.dns_wire.specs.declared.record.Record.{Record}
use Rattle.dns_wire.specs.declared.message.Message.{Message}
use Rattle.dns_wire.specs.declared.class.TheConstants as class
use Rattle.dns_wire.specs.declared.record_type.TheConstants as record_type
use Rattle.dns_wire.specs.declared.record_type.TheConstants.{SOA}
use Rattle.dns_wire.specs.declared.response_code.TheConstants.{FORM_ERR, NX_DOMAIN, REFUSED, YX_DOMAIN, YX_RR_SET, NX_RR_SET, NOT_AUTH, NOT_ZONE}
use Rattle.dns_zone_map.specs.Zone.{Contents}
use Rattle.dns_update.specs.declared.verdict.Verdict.{Verdict}
use Rattle.dns_update.specs.declared.verdict.Verdict.TheVariants.{Fails, Passes}
use Rattle.dns_update.specs.Verdict.{is_empty, demand, and_then, in_turn, section_rule, existence_rule, absence_rule, prerequisite_rule, set_rule, prescan_rule, verdict_of, gathered_of}

-- a code of four bits other than ServFail
abbrev pub is_code : ℕ → Bool
is_code code = nat_lt code 16 && not (code == 2)

abbrev pub HasCode : Verdict → Type 0
HasCode (Fails code) = is_code code ≡ true
HasCode Passes = Unit {0}

either : (test : Bool) (a b : Verdict) → HasCode a → HasCode b → HasCode (if test then a else b)
either true a b first second = first
either false a b first second = second

demanded : (test : Bool) (code : ℕ) → is_code code ≡ true → HasCode (demand test code)
demanded true code is = tt
demanded false code is = is

both : (a b : Verdict) → HasCode a → HasCode b → HasCode (and_then a b)
both (Fails code) b first second = first
both Passes b first second = second

each : (rule : Record → Verdict) (records : List Record) → ((r : Record) → HasCode (rule r)) → HasCode (in_turn rule records)
each rule [] one = tt
each rule (r ∷ rs) one = both (rule r) (in_turn rule rs) (one r) (each rule rs one)

section_code : (origin : List (List ℕ)) (allow_update : Bool) (questions : List Question) → HasCode (section_rule origin allow_update questions)
section_code origin allow_update [] = refl
section_code origin allow_update (q ∷ []) =
    either (not (q.qtype == SOA)) (Fails FORM_ERR) _ refl
    (either (not (is_same_name q.name origin && (q.qclass == class.IN))) (Fails NOT_AUTH) _ refl (demanded allow_update REFUSED refl))
section_code origin allow_update (q ∷ p ∷ qs) = refl

existence_code : (records : List Record) (r : Record) → HasCode (existence_rule records r)
existence_code records r =
    either (not (is_empty r.rdata)) (Fails FORM_ERR) _ refl
    (either (r.rtype == record_type.ANY) _ _ (demanded _ NX_DOMAIN refl) (demanded _ NX_RR_SET refl))

absence_code : (records : List Record) (r : Record) → HasCode (absence_rule records r)
absence_code records r =
    either (not (is_empty r.rdata)) (Fails FORM_ERR) _ refl
    (either (r.rtype == record_type.ANY) _ _ (demanded _ YX_DOMAIN refl) (demanded _ YX_RR_SET refl))

prerequisite_code : (origin : List (List ℕ)) (records : List Record) (r : Record) → HasCode (prerequisite_rule origin records r)
prerequisite_code origin records r =
    either (not (r.ttl == 0)) (Fails FORM_ERR) _ refl
    (either (not (is_at_or_below r.name origin)) (Fails NOT_ZONE) _ refl
    (either (r.class == class.ANY) (existence_rule records r) _ (existence_code records r)
    (either (r.class == class.NONE) (absence_rule records r) _ (absence_code records r) (demanded _ FORM_ERR refl))))

prescan_code : (origin : List (List ℕ)) (r : Record) → HasCode (prescan_rule origin r)
prescan_code origin r = either (not (is_at_or_below r.name origin)) (Fails NOT_ZONE) _ refl (demanded _ FORM_ERR refl)

pub verdict_code : (zone : Contents) (m : Message) (allow_update : Bool) → HasCode (verdict_of zone m allow_update)
verdict_code zone m allow_update =
    both _ _ (section_code zone.origin allow_update m.questions)
    (both _ _
    (both _ _ (each (prerequisite_rule zone.origin zone.records) m.answers (prerequisite_code zone.origin zone.records))
    (each (set_rule zone.records (gathered_of m.answers)) (gathered_of m.answers) (λ r. demanded _ NX_RR_SET refl)))
    (each (prescan_rule zone.origin) m.authority (prescan_code zone.origin)))

both_true : (a b : Bool) → (a && b) ≡ true → (a ≡ true) × (b ≡ true)
both_true true b e = (refl, e)
both_true false b e = absurd cc

-- the code of an update that fails
pub failing_code : (verdict : Verdict) (code : ℕ) → HasCode verdict → verdict ≡ Fails code → (code < 16) × (code ≢ 2)
failing_code verdict code has is =
    let tests = both_true (nat_lt code 16) (not (code == 2)) (subst HasCode is has) in
    (ltb-true _ _ tests.0, λ two. false≢true (subst (λ (n : ℕ). not (n == 2) ≡ true) two tests.1))

pub code_small : (zone : Contents) (m : Message) (allow_update : Bool) (verdict : Verdict) (code : ℕ) → verdict ≡ verdict_of zone m allow_update → verdict ≡ Fails code → code < 4096
code_small zone m allow_update verdict code is e =
    let small : code < 16 = (failing_code verdict code (subst HasCode (sym is) (verdict_code zone m allow_update)) e).0 in
    omega (arith, small)
