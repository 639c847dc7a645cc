use Rattle.std.proofs.Common.{◌≡◌, ◌∙◌, sym, false, Result, Ok, Err, OnOk, is_err}
use Rattle.dns_zone_map.proofs.former.keep_last.Goals as goal

no_error : {T E P : Type 0} (r : Result T E) → is_err r ≡ false → OnOk r P → P
no_error (Ok t) n h = h
no_error (Err e) n h = absurd cc

pub returns-clause-ok : goal.returns-clause-ok
returns-clause-ok c = record {
  last = c.in_ok-former.former;
  more = c.in_ok-push.ensures.items;
  keyed = c.in_ok-former.ensures.key;
  sets = c.in_ok-former.ensures.sets;
  apart = c.in_ok-former.ensures.apart;
  here = no_error c.add_missing.result (sym c.is_err.ensures.value ∙ c.if-is_err.false) c.add_missing.ensures.ok;
}
