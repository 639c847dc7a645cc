use Rattle.std.proofs.Common.{Some, None, rules, sym}
use Rattle.std.proofs.lemmas.Str.Pattern.{split_parts}
use Rattle.dns_net.proofs.Cuts.{before_first-Lacks, before_first-at, slice_split-Lacks, slice_split-at}
use Rattle.dns_net.proofs.checks.cut.Goals as goal

pub returns-in-Some : goal.returns-in-Some
returns-in-Some c =
    let parts = split_parts c.args.mark c.args.text.now (Some (c.in-Some.before, c.in-Some.after)) c.in-Some.ensures.cases c.requires in
    record {
      before = rw parts.0 (sym (before_first-at _ _ _ parts.1));
      parts = rw parts.0 (slice_split-at _ _ _ parts.1);
      shorter = search rules;
    }

pub returns-in-None : goal.returns-in-None
returns-in-None c =
    let lacks = split_parts c.args.mark c.args.text.now None c.in-None.ensures.cases c.requires in
    record {
      before = sym (before_first-Lacks _ _ lacks);
      parts = slice_split-Lacks _ _ lacks;
      shorter = tt;
    }
