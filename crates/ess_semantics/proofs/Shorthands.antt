-- Short words in which the worked examples are written.
use Rattle.std.specs.Prelude.{ℕ, List, [], ◌∷◌, pos, Option, Some}
use Rattle.ess_semantics.specs.declared.words.Op1.{Op1}
use Rattle.ess_semantics.specs.declared.words.Op2.{Op2}
use Rattle.ess_semantics.specs.declared.words.Fun.{Fun}
use Rattle.ess_semantics.specs.declared.words.Key.{Key}
use Rattle.ess_semantics.specs.Names.{Names}
use Rattle.ess_semantics.specs.Values.{Text, Value, number, a_function, node, of_list}
use Rattle.ess_semantics.specs.Trees.{by_value, unary, binary, word, index, application, both_ends, low_end, valued, Ex, Exs, number_ex, name_ex, no_exs, more_exs, plain_node, Dom, Doms, int_dom, set_dom, no_doms, more_doms}
use Rattle.ess_semantics.specs.Types.{Ty}
use Rattle.ess_semantics.specs.Resolving.{resolve}
use Rattle.ess_semantics.specs.Meaning.{empty_env, meaning}
use Rattle.ess_semantics.specs.Assignments.{Assignment}

-- ---- expressions as they are read

abbrev pub N : Text → Ex
N a = name_ex a

abbrev pub n : ℕ → Ex
n k = number_ex (pos k)

abbrev pub es1 : Ex → Exs
es1 a = more_exs a no_exs

abbrev pub es2 : Ex → Ex → Exs
es2 a b = more_exs a (more_exs b no_exs)

abbrev pub un : Op1 → Ex → Ex
un o a = plain_node (unary o) (es1 a)

abbrev pub bi : Op2 → Ex → Ex → Ex
bi o a b = plain_node (binary o) (es2 a b)

abbrev pub fn : Fun → Ex → Ex
fn f a = plain_node (word f) (es1 a)

abbrev pub fn2 : Fun → Ex → Ex → Ex
fn2 f a b = plain_node (word f) (es2 a b)

abbrev pub at : Ex → Ex → Ex
at a i = plain_node (index (by_value ∷ [])) (es2 a i)

abbrev pub app : Ex → Ex → Ex
app f x = plain_node application (es2 f x)

abbrev pub neg : ℕ → Ex
neg k = un Op1.Minus (n k)

-- ---- domains

abbrev pub ds2 : Dom → Dom → Doms
ds2 a b = more_doms a (more_doms b no_doms)

abbrev pub range : Ex → Ex → Dom
range a b = int_dom (both_ends ∷ []) (es2 a b)

abbrev pub upto : ℕ → Dom
upto k = range (n 1) (n k)

abbrev pub from_1 : Dom
from_1 = int_dom (low_end ∷ []) (es1 (n 1))

abbrev pub any_int : Dom
any_int = int_dom [] no_exs

abbrev pub set : Dom → Dom
set d = set_dom [] no_exs d

abbrev pub sized : Key → ℕ → Dom → Dom
sized k m d = set_dom (valued k ∷ []) (es1 (n m)) d

-- ---- values

abbrev pub v : ℕ → Value
v k = number (pos k)

abbrev pub v2 : List Value
v2 = v 1 ∷ v 2 ∷ []

abbrev pub v3 : List Value
v3 = v 1 ∷ v 2 ∷ v 3 ∷ []

abbrev pub function : List Value → Value
function ps = node a_function (of_list ps)

abbrev pub gives1 : Text → Value → Assignment
gives1 a w = record { types = []; vals = (a, Some w) ∷ [] }

abbrev pub gives2 : Text → Value → Text → Value → Assignment
gives2 a w b z = record { types = []; vals = (a, Some w) ∷ (b, Some z) ∷ [] }

-- ---- meaning of read expressions

-- Under types and values of names.
abbrev pub value_with : Ex → Names Ty → Names Value → Option Value
value_with e g vs = meaning (resolve e g) (record empty_env { vals = vs })

-- Without names.
abbrev pub value : Ex → Option Value
value e = value_with e [] []
