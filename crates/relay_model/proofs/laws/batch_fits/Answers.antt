use Rattle.relay_model.proofs.public.Fitting.{batch_fits}
use Rattle.relay_model.proofs.laws.batch_fits.Goals as goal

pub returns : goal.returns
returns c = batch_fits
