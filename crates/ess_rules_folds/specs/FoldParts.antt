-- What the rules of folds make of the parts of a root.
use Rattle.std.specs.Prelude.{Bool, true, false, ◌&&◌, if◌then◌else◌, pos, Option, Some, None}
use Rattle.ess_semantics.specs.declared.words.Op2.{Op2}
use Rattle.ess_semantics.specs.declared.words.Fun.{Fun}
use Rattle.ess_semantics.specs.Lists.{and_then}
use Rattle.ess_semantics.specs.Values.{Text}
use Rattle.ess_semantics.specs.Trees.{name_pat, Ex, Exs, number_ex, truth_ex, name_ex, comp_ex, ex2, fun1, Gens, no_gens, from}
use Rattle.ess_semantics.specs.Substitution.{substitute, substitute_gens, for_name}
use Rattle.ess_rules_laws.specs.FoldRules.{is_fold, is_laid_open}
use Rattle.ess_rules_laws.specs.SourceRules.{is_marked, list_of, each_fold}
use Rattle.ess_rules_folds.specs.Forms.{FoldParts, first_operand, only_operand, are_none, list_items, written_items, made_set_of, from_parts, only_condition, are_no_gens, first_comp}

-- Whether the word is `and` or `or`, of truth values.
abbrev pub is_quantifier : Bool → Fun → Bool
is_quantifier true Fun.And = true
is_quantifier true Fun.Or = true
is_quantifier b f = false

-- ---- over nothing, one item, no generators, a term

-- What a fold is over no items.
abbrev pub unit_of : Fun → Ex
unit_of Fun.And = truth_ex true
unit_of Fun.Or = truth_ex false
unit_of Fun.Product = number_ex (pos 1)
unit_of f = number_ex (pos 0)

-- Whether the only operand is a list literal without items.
abbrev pub is_empty_list : Exs → Bool
is_empty_list es = elim (first_operand es) [
  | None ↦ false
  | Some x ↦ elim (list_items x.0) [
    | None ↦ false
    | Some is ↦ are_none is && are_none x.1
  ]
]

-- The only item of a list literal that is the only operand.
abbrev pub one_item : Exs → Option Ex
one_item es =
    and_then (first_operand es) (λ x. and_then (list_items x.0) (λ is. and_then (only_operand is)
    (λ a. if are_none x.1 then Some a else None)))

-- The body of a comprehension without generators that is the only operand.
abbrev pub bare_body : Exs → Option Ex
bare_body es = and_then (first_comp es) (λ c. if are_no_gens c.1 && are_none c.2 then Some c.0 else None)

abbrev pub nothing_made : Bool × Fun × Exs → Option Ex
nothing_made w = if is_marked w.0 w.1 then (if is_empty_list w.2 then Some (unit_of w.1) else None) else None

abbrev pub one_made : Bool × Fun × Exs → Option Ex
one_made w = if is_marked w.0 w.1 then one_item w.2 else None

abbrev pub bare_made : Bool × Fun × Exs → Option Ex
bare_made w = if is_marked w.0 w.1 then bare_body w.2 else None

abbrev pub term_made : Text → Bool × Fun × Exs → Option Ex
term_made x w =
    and_then (only_operand w.2) (λ l. if is_fold w.1
    then (if is_laid_open l then None else Some (fun1 w.0 w.1 (comp_ex (name_ex x) (from (name_pat x) l no_gens)))) else None)

-- ---- quantifiers

-- The operator between a condition and what is said under it.
abbrev pub under_condition : Fun → Op2
under_condition Fun.And = Op2.Implies
under_condition f = Op2.And

-- Of `and` or `or` of a comprehension over a condition alone.
abbrev pub alone_body : Fun → Exs → Option Ex
alone_body f es =
    and_then (first_comp es) (λ c. and_then (only_condition c.1)
    (λ k. if are_none c.2 then Some (ex2 true (under_condition f) k c.0) else None))

abbrev pub alone_made : Bool × Fun × Exs → Option Ex
alone_made w = if is_quantifier w.0 w.1 then alone_body w.1 w.2 else None

-- Of `and` or `or` of a comprehension over a set that is made of another container.
abbrev pub loose_body : Fun → Exs → Option Ex
loose_body f es =
    and_then (first_comp es) (λ c. and_then (from_parts c.1) (λ s. and_then (made_set_of s.1)
    (λ t. if are_none c.2 then Some (fun1 true f (comp_ex c.0 (from s.0 t s.2))) else None)))

abbrev pub loose_made : Bool × Fun × Exs → Option Ex
loose_made w = if is_quantifier w.0 w.1 then loose_body w.1 w.2 else None

-- ---- over a literal

-- The fold for one item.
abbrev pub item_fold : Bool → Fun → Text → Ex → Gens → Ex → Ex
item_fold m f y e hs a = fun1 m f (comp_ex (substitute (for_name y a) e) (substitute_gens (for_name y a) hs))

-- The fold of the folds for all items.
abbrev pub items_folded : FoldParts → Exs → Option Ex
items_folded p es =
    if is_marked p.mark p.fun then Some (fun1 p.mark p.fun (list_of (each_fold p.mark p.fun p.name p.body p.rest es))) else None

abbrev pub items_made : FoldParts → Option Ex
items_made p = and_then (written_items p.source) (λ es. if are_none p.others then items_folded p es else None)
