use Rattle.session_model.proofs.public.Sent.{session_begins}
use Rattle.client_stream.proofs.laws.nothing_sent.Goals as goal

pub returns : goal.returns
returns c = λ newest type r run. record { written = session_begins newest type r run; batch = tt }
