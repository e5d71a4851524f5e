-- A worked example of a chain of rules that changes a meaning, since a term with bound names is put in twice: why a source that is put in
-- takes bound names of its own first.
use Rattle.std.specs.Prelude.{◌≡◌, refl, false, [], codes, Some}
use Rattle.ess_semantics.specs.declared.words.Op2.{Op2}
use Rattle.ess_semantics.specs.declared.words.Fun.{Fun}
use Rattle.ess_semantics.specs.Values.{Text}
use Rattle.ess_semantics.specs.Trees.{matrix_literal, name_pat, Ex, node_ex, comp_ex, bool_dom, no_gens, over, from}
use Rattle.ess_semantics.specs.Meaning.{empty_env, meaning}
use Rattle.ess_semantics.proofs.Shorthands.{N, es1, bi, fn, upto, v}
use Rattle.ess_refine_laws.specs.AllRules.{Supply, over_a_literal, over_a_source, rewrite}

-- Reserved names, as they stand where bound names are told apart.
abbrev y : Text
y = codes "#0"

abbrev u : Text
u = codes "#1"

abbrev w : Text
w = codes "#2"

abbrev j : Text
j = codes "#3"

abbrev supply : Supply
supply = record {
  one = codes "#4";
  other = codes "#5";
  third = codes "#6";
  parts = [];
  index_domain = λ e. bool_dom;
  copy = λ e. e;
}

abbrev list_of_one : Ex → Ex
list_of_one e = node_ex false matrix_literal (es1 e)

-- `[j | j : int(1..2)]`.
abbrev items : Ex
items = comp_ex (N j) (over (name_pat j) (upto 2) no_gens)

-- `sum([sum([v * w | w <- l]) | v <- l])`.
abbrev products : Ex → Ex
products l = fn Fun.Sum (comp_ex (fn Fun.Sum (comp_ex (bi Op2.Times (N u) (N w)) (from (name_pat w) l no_gens)))
    (from (name_pat u) l no_gens))

-- The same of each l of `[[j | j : int(1..2)]]`.
abbrev start : Ex
start = fn Fun.Sum (comp_ex (products (N y)) (from (name_pat y) (list_of_one items) no_gens))

nine : meaning start empty_env ≡ Some (v 9)
nine = refl

put_twice : rewrite supply [] over_a_literal start ≡ Some (fn Fun.Sum (list_of_one (fn Fun.Sum (comp_ex (products items) no_gens))))
put_twice = refl

-- `[v * j | j : int(1..2)]`, where j isn't bound yet around it.
inner_source : rewrite supply [] over_a_source (fn Fun.Sum (comp_ex (bi Op2.Times (N u) (N w)) (from (name_pat w) items no_gens)))
    ≡ Some (fn Fun.Sum (list_of_one (fn Fun.Sum (comp_ex (bi Op2.Times (N u) (N j)) (over (name_pat j) (upto 2) no_gens)))))
inner_source = refl

-- The first source put in binds the same name, which stands in the second one.
outer_source : rewrite supply [] over_a_source (products items)
    ≡ Some (fn Fun.Sum (list_of_one (fn Fun.Sum (comp_ex
    (fn Fun.Sum (comp_ex (bi Op2.Times (N j) (N w)) (from (name_pat w) items no_gens)))
    (over (name_pat j) (upto 2) no_gens)))))
outer_source = refl

-- There the name that was put in is captured.
captured : rewrite supply [] over_a_source
    (fn Fun.Sum (comp_ex (bi Op2.Times (N j) (N w)) (from (name_pat w) items no_gens)))
    ≡ Some (fn Fun.Sum (list_of_one (fn Fun.Sum (comp_ex (bi Op2.Times (N j) (N j)) (over (name_pat j) (upto 2) no_gens)))))
captured = refl

ten : meaning (fn Fun.Sum (comp_ex (fn Fun.Sum (comp_ex (bi Op2.Times (N j) (N j)) (over (name_pat j) (upto 2) no_gens)))
    (over (name_pat j) (upto 2) no_gens))) empty_env ≡ Some (v 10)
ten = refl
