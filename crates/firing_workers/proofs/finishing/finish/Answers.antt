-- What goes on without claims goes on from the core that was given.
use Rattle.firing_workers.proofs.FinishingLemmas.{finished-cleared, finished_ends, finished_goes_on, finished_tells}
use Rattle.firing_workers.proofs.finishing.finish.Goals as goal

pub returns-clause-goes_on : goal.returns-clause-goes_on
returns-clause-goes_on c = finished_goes_on c.args.core _ _ (finished-cleared c.args.core _ _ _ c.drop_all.ensures c.in_ok-ending.ensures)

pub returns-clause-alone : goal.returns-clause-alone
returns-clause-alone c = c.in_ok-ending.ensures.gone_on.alone

pub returns-clause-fault : goal.returns-clause-fault
returns-clause-fault c = (finished-cleared c.args.core _ _ _ c.drop_all.ensures c.in_ok-ending.ensures).gone_on.fault

pub returns-clause-kept_fault : goal.returns-clause-kept_fault
returns-clause-kept_fault c = finished_tells _ _ _ (finished-cleared c.args.core _ _ _ c.drop_all.ensures c.in_ok-ending.ensures)

pub returns-clause-ending : goal.returns-clause-ending
returns-clause-ending c = finished_ends _ _ _ (finished-cleared c.args.core _ _ _ c.drop_all.ensures c.in_ok-ending.ensures)

pub returns-clause-lawful : goal.returns-clause-lawful
returns-clause-lawful c = c.in_ok-ending.ensures.lawful

pub returns-clause-ended_before : goal.returns-clause-ended_before
returns-clause-ended_before c = (finished-cleared c.args.core _ _ _ c.drop_all.ensures c.in_ok-ending.ensures).gone_on.ended_before
