use Rattle.eprime_tree.proofs.NextItem.{next-Over, next-If, next-none}
use Rattle.eprime_tree.proofs.printing.lists.is_generator_at.Goals as goal

pub returns-in-Some-Over : goal.returns-in-Some-Over
returns-in-Some-Over c = λ s. next-Over s c.args.gens.now c.args.index c.in-Some-Over.field-0.now c.in-Some-Over.field-0-0 c.in-Some-Over.field-0-1 c.in-Some-Over.field-0-is c.in-Some-Over.ensures

pub returns-in-Some-If : goal.returns-in-Some-If
returns-in-Some-If c = λ s. next-If s c.args.gens.now c.args.index c.in-Some-If.field-0.now c.in-Some-If.field-0-0 c.in-Some-If.field-0-is c.in-Some-If.ensures

pub returns-in-None : goal.returns-in-None
returns-in-None c = λ s. next-none s c.args.gens.now c.args.index c.in-None.ensures
