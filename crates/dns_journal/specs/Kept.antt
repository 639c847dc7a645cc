-- What a journal keeps of its connection.
use Rattle.std.specs.Prelude.{ℤ, Bool}
use Rattle.sqlite.specs.State.{State}
use Rattle.dns_journal.specs.Told.{IsReady, FitsConnection}
use Rattle.dns_journal.specs.Pages.{HoldsRows}
use Rattle.dns_journal.specs.BatchPages.{HoldsBatchesOf}
use Rattle.dns_journal.specs.declared.page.Page.{Page}
use Rattle.dns_journal.specs.declared.batch_page.BatchPage.{BatchPage}

-- what a journal keeps is true of its connection
pub record IsTrueOf (is_ready : Bool) (version : ℤ) (kept : Page) (ahead : BatchPage) (s : State) : Type 0 where
  pub ready : IsReady is_ready version s
  pub page : HoldsRows kept s
  pub batches : HoldsBatchesOf ahead s
  pub fits : FitsConnection version s
