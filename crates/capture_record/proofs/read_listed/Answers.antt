use Rattle.capture_record.specs.Listing.{read_listed}
use Rattle.capture_record.proofs.read_listed.Goals as goal

pub returns-in-Err : goal.returns-in-Err
unfolding read_listed
returns-in-Err c = cc

pub returns-in-Ok : goal.returns-in-Ok
unfolding read_listed
returns-in-Ok c = cc
