use Rattle.dns_printed.proofs.Whole.{zone_back}
use Rattle.dns_printed.proofs.Aliases.{lone_zone}
use Rattle.dns_printed.proofs.laws.printed_zones.Goals as goal

pub returns-clause-zone : goal.returns-clause-zone
returns-clause-zone c origin records zone kept alone = zone_back origin records zone kept alone

pub returns-clause-alone : goal.returns-clause-alone
returns-clause-alone c origin text records is = lone_zone origin text records is

pub returns-clause-again : goal.returns-clause-again
returns-clause-again c origin text records is zone kept = zone_back origin records zone kept (lone_zone origin text records is)
