use Rattle.std.proofs.Common.{refl}
use Rattle.lamp.specs.Lamp.{at_end}
use Rattle.lamp.proofs.settling.at_end.Goals as goal

pub returns : goal.returns
unfolding at_end
returns c = refl
