use Rattle.ess_kinds_kept_laws.proofs.laws.function_sizes_serve.Goals as goal
use Rattle.ess_kinds_kept_laws.proofs.FunctionSizes.{function_size-keeps}

pub returns : goal.returns
returns c = function_size-keeps
