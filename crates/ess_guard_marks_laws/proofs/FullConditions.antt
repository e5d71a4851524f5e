-- In conditions no node lacks its mark where none does in the operands: what is built of conditions, and each row but that of indices.
use Rattle.std.proofs.Common.{◌≡◌, refl, sym, subst, Bool, true, false, if◌then◌else◌, List, [], ◌∷◌, ◌++◌, pos}
use Rattle.ess_semantics.specs.declared.words.Op2.{Op2}
use Rattle.ess_semantics.specs.declared.words.Fun.{Fun}
use Rattle.ess_semantics.specs.Lists.{all_some}
use Rattle.ess_semantics.specs.Values.{Text}
use Rattle.ess_semantics.specs.Names.{Names}
use Rattle.ess_semantics.specs.Trees.{Pat, binary, word, tuple_literal, matrix_literal, name_pat, Ex, Exs, number_ex, truth_ex, name_ex, node_ex, matrix_ex, comp_ex, cell_ex, seen_ex, no_exs, more_exs, no_gens, over, from, Dom, ex2, fun1}
use Rattle.ess_semantics.specs.Types.{Ty, type_of_dom, bind_types}
use Rattle.ess_semantics.specs.Typing.{types_of, source_ty}
use Rattle.ess_semantics.specs.NamesAt.{names_behind}
use Rattle.ess_semantics.specs.Constants.{operand_count}
use Rattle.ess_guard_laws.specs.Origins.{Origin, is_number}
use Rattle.ess_guard_laws.specs.Conditions.{conds, chained, summed, all_of, every, given_that, unless, nil_ex, as_number, is_not_zero, quotient_conditions, is_above_zero, power_conditions, has_items, has_item, some_item, is_argument, image_conditions, party_conditions, agree, have_other_arguments, agree_all, function_conditions, have_members, are_disjoint, is_single_set, partition_conditions, has_size, matrix_conditions}
use Rattle.ess_guard_marks_laws.proofs.FullMarks.{Full, AllFull, GensFull, DomFull, FullConds}
use Rattle.ess_guard_marks_laws.proofs.NoBooleans.{never, plus-two, sum-of, defined-of, participants-of, list-of}

-- ---- lists of conditions

pub full-append : (cs ds : List Ex) (g : Names Ty) → FullConds cs g → FullConds ds g → FullConds (cs ++ ds) g
full-append [] ds g p q = q
full-append (c ∷ cs) ds g p q = (p.0, full-append cs ds g p.1 q)

pub full-unless : (t : Bool) (c : Ex) (g : Names Ty) → Full c g → FullConds (unless t c) g
full-unless true c g p = tt
full-unless false c g p = (p, tt)

pub full-if : (t : Bool) (cs : List Ex) (g : Names Ty) → FullConds cs g → FullConds (if t then [] else cs) g
full-if true cs g p = tt
full-if false cs g p = p

conds-behind : (cs : List Ex) (g : Names Ty) → names_behind (conds cs) g ≡ g
conds-behind [] g = refl
conds-behind (c ∷ cs) g = conds-behind cs g

conds-full : (cs : List Ex) (g : Names Ty) → FullConds cs g → GensFull (conds cs) g
conds-full [] g p = tt
conds-full (c ∷ cs) g p = (p.0, conds-full cs g p.1)

under-full : (cs : List Ex) (e : Ex) (g : Names Ty) → FullConds cs g → Full e g → Full (comp_ex e (conds cs)) g
under-full cs e g p f = (conds-full cs g p, subst (λ h. Full e h) (sym (conds-behind cs g)) f)

-- A Boolean under conditions.
pub chained-full : (cs : List Ex) (b : Ex) (g : Names Ty) → FullConds cs g → Full b g → Full (chained cs b) g
chained-full [] b g p f = f
chained-full (c ∷ cs) b g p f = (tt, (under-full (c ∷ cs) b g p f, tt))

-- A number under conditions.
pub summed-full : (cs : List Ex) (e : Ex) (g : Names Ty) → FullConds cs g → Full e g → Full (summed cs e) g
summed-full [] e g p f = f
summed-full (c ∷ cs) e g p f = (
  never (word Fun.Sum) sum-of (all_some (types_of (more_exs (comp_ex e (conds (c ∷ cs))) no_exs) g)),
  (under-full (c ∷ cs) e g p f, tt),
)

-- That all conditions hold.
pub all-of-full : (cs : List Ex) (g : Names Ty) → FullConds cs g → Full (all_of cs) g
all-of-full [] g p = tt
all-of-full (c ∷ []) g p = p.0
all-of-full (c ∷ d ∷ cs) g p = chained-full (c ∷ []) (all_of (d ∷ cs)) g (p.0, tt) (all-of-full (d ∷ cs) g p.1)

-- At each member of a domain.
pub over-full : (p : Pat) (d : Dom) (cs : List Ex) (g : Names Ty) → DomFull d g → FullConds cs (bind_types p (type_of_dom d) g) →
    FullConds (every (over p d no_gens) cs) g
over-full p d [] g m q = tt
over-full p d (c ∷ cs) g m q = ((tt, (((m, tt), all-of-full (c ∷ cs) (bind_types p (type_of_dom d) g) q), tt)), tt)

-- At each item of a source.
pub from-full : (p : Pat) (s : Ex) (cs : List Ex) (g : Names Ty) → Full s g → FullConds cs (bind_types p (source_ty s g) g) →
    FullConds (every (from p s no_gens) cs) g
from-full p s [] g m q = tt
from-full p s (c ∷ cs) g m q = ((tt, (((m, tt), all-of-full (c ∷ cs) (bind_types p (source_ty s g) g) q), tt)), tt)

-- Where another one holds.
pub given-full : (b : Ex) (cs : List Ex) (g : Names Ty) → Full b g → FullConds cs g → FullConds (given_that b cs) g
given-full b [] g f q = tt
given-full b (c ∷ cs) g f q = ((tt, (f, (all-of-full (c ∷ cs) g q, tt))), tt)

-- ---- rows

-- The number that an operator reads.
pub number-full : (k : Names Origin) (b : Ex) (g : Names Ty) → Full b g → Full (as_number k b) g
number-full k b g f = go (is_number k b)
  where
    go : (t : Bool) → Full (if t then b else ex2 false Op2.Plus b nil_ex) g
    go true = f
    go false = (never (binary Op2.Plus) plus-two (all_some (types_of (more_exs b (more_exs nil_ex no_exs)) g)), (f, (tt, tt)))

compared-full : (o : Op2) (k : Names Origin) (b : Ex) (g : Names Ty) → Full b g → Full (ex2 true o (as_number k b) nil_ex) g
compared-full o k b g f = (tt, (number-full k b g f, (tt, tt)))

pub quotient-full : (k : Names Origin) (b : Ex) (g : Names Ty) → Full b g → FullConds (quotient_conditions k b) g
quotient-full k b g f = full-unless (is_not_zero b) _ g (compared-full Op2.Ne k b g f)

pub power-full : (k : Names Origin) (a b : Ex) (g : Names Ty) → Full a g → Full b g → FullConds (power_conditions k a b) g
power-full k a b g fa fb = full-if (is_above_zero b) _ g (
  compared-full Op2.Ge k b g fb,
  full-unless (is_not_zero a) _ g (tt, (compared-full Op2.Ne k b g fb, (compared-full Op2.Ne k a g fa, tt))),
)

from-item : (x : Text) (s : Ex) (g : Names Ty) → Full s g →
    Full (fun1 true Fun.Or (comp_ex (truth_ex true) (from (name_pat x) s no_gens))) g
from-item x s g f = (tt, (((f, tt), tt), tt))

has-item-full : (x : Text) (s : Ex) (g : Names Ty) → Full s g → Full (has_item x s) g
has-item-full x (comp_ex e gs) g f = (tt, ((f.0, tt), tt))
has-item-full x (number_ex n) g f = from-item x (number_ex n) g f
has-item-full x (truth_ex b) g f = from-item x (truth_ex b) g f
has-item-full x (name_ex a) g f = from-item x (name_ex a) g f
has-item-full x (node_ex b op es) g f = from-item x (node_ex b op es) g f
has-item-full x (matrix_ex es d) g f = from-item x (matrix_ex es d) g f
has-item-full x (cell_ex b n es) g f = from-item x (cell_ex b n es) g f
has-item-full x (seen_ex r d ns es) g f = from-item x (seen_ex r d ns es) g f

pub some-item-full : (x : Text) (s : Ex) (g : Names Ty) → Full s g → FullConds (some_item x s) g
some-item-full x s g f = full-unless (has_items s) (has_item x s) g (has-item-full x s g f)

pub image-full : (k : Names Origin) (f a : Ex) (g : Names Ty) → Full f g → Full a g → FullConds (image_conditions k f a) g
image-full k f a g p q = full-unless (is_argument k f a) _ g
    (tt, (q, ((never (word Fun.Defined) defined-of (all_some (types_of (more_exs f no_exs) g)), (p, tt)), tt)))

pub party-full : (a p : Ex) (g : Names Ty) → Full a g → Full p g → FullConds (party_conditions a p) g
party-full a p g f q =
    ((tt, (f, ((never (word Fun.Participants) participants-of (all_some (types_of (more_exs p no_exs) g)), (q, tt)), tt))), tt)

agree-full : (p q : Ex) (g : Names Ty) → Full p g → Full q g → Full (agree p q) g
agree-full (node_ex false tuple_literal (more_exs a (more_exs b no_exs)))
    (node_ex false tuple_literal (more_exs c (more_exs d no_exs))) g f h =
    (tt, ((tt, (f.1.0, (h.1.0, tt))), ((tt, (f.1.1.0, (h.1.1.0, tt))), tt)))
agree-full p q g f h = tt

agree-all-full : (p : Ex) (qs : Exs) (g : Names Ty) → Full p g → AllFull qs g → FullConds (agree_all p qs) g
agree-all-full p no_exs g f h = tt
agree-all-full p (more_exs q qs) g f h =
    full-append (unless (have_other_arguments p q) (agree p q)) (agree_all p qs) g
    (full-unless (have_other_arguments p q) (agree p q) g (agree-full p q g f h.0)) (agree-all-full p qs g f h.1)

pub function-full : (ps : Exs) (g : Names Ty) → AllFull ps g → FullConds (function_conditions ps) g
function-full no_exs g f = tt
function-full (more_exs p ps) g f =
    full-append (agree_all p ps) (function_conditions ps) g (agree-all-full p ps g f.0 f.1) (function-full ps g f.1)

members-full : (x : Text) (ss : Exs) (g : Names Ty) → AllFull ss g → FullConds (have_members x ss) g
members-full x no_exs g f = tt
members-full x (more_exs s ss) g f =
    full-append (some_item x s) (have_members x ss) g (some-item-full x s g f.0) (members-full x ss g f.1)

pub partition-full : (x y : Text) (ss : Exs) (g : Names Ty) → AllFull ss g → FullConds (partition_conditions x y ss) g
partition-full x y ss g f = full-append (have_members x ss) _ g (members-full x ss g f)
    (full-unless (is_single_set ss) (are_disjoint x y ss) g
    (tt, ((((never matrix_literal list-of (all_some (types_of ss g)), f), (tt, tt)), tt), tt)))

-- The row of a matrix literal.
pub matrix-full : (x : Text) (es : Exs) (d : Dom) (g : Names Ty) → DomFull d g → FullConds (matrix_conditions x es d) g
matrix-full x es d g m = full-unless (has_size d (operand_count es)) _ g (
  tt,
  (
    (
      never (word Fun.Sum) sum-of (all_some (types_of (more_exs (comp_ex (number_ex (pos 1)) (over (name_pat x) d no_gens)) no_exs) g)),
      (((m, tt), tt), tt),
    ),
    (tt, tt),
  ),
)
