use Rattle.dns_update_client.proofs.UpdateReplies.{Settles-replied, SettlesUpdates-exchange, SettlesUpdates-codes, SettlesUpdates-answered}
use Rattle.dns_update_client.proofs.laws.answered_updates.Goals as goal

pub returns-clause-exchanged : goal.returns-clause-exchanged
returns-clause-exchanged g c = SettlesUpdates-exchange g.K.Keeper.keeper

pub returns-clause-codes : goal.returns-clause-codes
returns-clause-codes g c = SettlesUpdates-codes g.K.Keeper.keeper

pub returns-clause-answered : goal.returns-clause-answered
returns-clause-answered g c = SettlesUpdates-answered g.K.Keeper.keeper

pub returns-clause-replied : goal.returns-clause-replied
returns-clause-replied g c = Settles-replied g.K.Keeper.keeper
