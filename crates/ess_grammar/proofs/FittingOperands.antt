-- The operands that the rules give for a node are as many as the node takes.
use Rattle.std.proofs.Common.{◌≡◌, refl, Bool, true, List}
use Rattle.ess_semantics.specs.Trees as Trees
use Rattle.ess_semantics.specs.Trees.{Op, Ex, Exs, no_exs, more_exs}
use Rattle.ess_grammar.specs.Words.{Token, Symbol}
use Rattle.ess_grammar.specs.Grammar.{steps_of, Opens, opens_tuple, opens_set, opens_mset, opens_relation, opens_partition, opens_matrix, opens_call, Expressions, last_expression, next_expression}
use Rattle.ess_grammar.specs.Readable.{fit_steps, fit_operands}

steps-fit : (es : Exs) → fit_steps (steps_of es) es ≡ true
steps-fit no_exs = refl
steps-fit (more_exs e es) = steps-fit es

-- a node of operands of which there is one or more
some-fit : {o : Op} {c : Symbol} {b : Bool} {ts us : List Token} → Opens o c b ts us → (e : Ex) (es : Exs) →
    fit_operands o (more_exs e es) ≡ true
some-fit opens_tuple e es = refl
some-fit opens_set e es = refl
some-fit opens_mset e es = refl
some-fit opens_relation e es = refl
some-fit opens_partition e es = refl
some-fit opens_matrix e es = refl
some-fit opens_call e es = refl

-- a node of operands of which there may be none
pub none-fit : {o : Op} {c : Symbol} {ts us : List Token} → Opens o c true ts us → fit_operands o no_exs ≡ true
none-fit opens_set = refl
none-fit opens_mset = refl
none-fit opens_relation = refl
none-fit opens_partition = refl
none-fit opens_matrix = refl

-- a node of the expressions that stand between its signs
pub list-fit : {o : Op} {c : Symbol} {b k : Bool} {es : Exs} {ts us vs xs : List Token} → Opens o c b ts us → Expressions k es vs xs →
    fit_operands o es ≡ true
list-fit z (last_expression {e = e} d) = some-fit z e no_exs
list-fit z (next_expression {e = e} {es = es} d ds) = some-fit z e es

-- a matrix with its indices
pub index-fit : {k : Bool} {es : Exs} {ts us : List Token} → Expressions k es ts us → (e : Ex) →
    fit_operands (Trees.index (steps_of es)) (more_exs e es) ≡ true
index-fit (last_expression {e = e} d) a = refl
index-fit (next_expression {e = e} {es = es} d ds) a = steps-fit es

-- a function with its arguments
pub application-fit : {k : Bool} {es : Exs} {ts us : List Token} → Expressions k es ts us → (e : Ex) →
    fit_operands Trees.application (more_exs e es) ≡ true
application-fit (last_expression d) a = refl
application-fit (next_expression d ds) a = refl
