use Rattle.dns_io.proofs.ToldContents.{Keeps-more, Takes-more, Keeps-Takes, Takes-Keeps, Grows-more, Keeps-Grows, Grows-Keeps, Grows-GrowsByPrefix}
use Rattle.dns_io.proofs.told.told_contents.Goals as goal

pub returns : goal.returns
returns c = record {
  kept = Keeps-more;
  takes = Takes-more;
  kept_takes = Keeps-Takes;
  takes_kept = Takes-Keeps;
  grows = Grows-more;
  kept_grows = Keeps-Grows;
  grows_kept = Grows-Keeps;
  grows_by_prefix = Grows-GrowsByPrefix;
}
