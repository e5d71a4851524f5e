-- When tables satisfy a model under given tables: they are those that it declares, over the declared axes and with items
-- in the declared domains, and each constraint is true.
use Rattle.std.specs.Prelude.{ℕ, suc, Bool, true, false, ◌&&◌, not, if◌then◌else◌, List, [], ◌∷◌, ◌++◌, ℤ, pos, Option, Some, None, IsTrue, is_some, ◌≡◌, int_le, ◌+ℤ◌}
use Rattle.std.specs.List.{list_all, list_any}
use Rattle.ess_semantics.specs.DeclaredTables.{TableDecl, axis_members}
use Rattle.ess_semantics.specs.Lists.{and_then, each_of, is_some_and, is_none_or}
use Rattle.ess_semantics.specs.Values.{Text}
use Rattle.ess_semantics.specs.Order.{same_text}
use Rattle.ess_semantics.specs.Names.{Names, keys, is_among}
use Rattle.ess_semantics.specs.Trees.{Ex, Dom}
use Rattle.ess_semantics.specs.Operators.{int_of}
use Rattle.ess_semantics.specs.Domains.{Span, Domain}
use Rattle.ess_semantics.specs.Membership.{in_span}
use Rattle.ess_semantics.specs.Tables.{Table, same_axes, is_filled, is_cell}
use Rattle.ess_semantics.specs.Meaning.{is_true}
use Rattle.ess_semantics.specs.ModelTrees.{no_goal, least, greatest, Model, all_decls}
use Rattle.ess_semantics.specs.ModelMeaning.{model_value, model_domain}

-- The members of an axis, rising.
abbrev pub axis_of : List TableDecl → Names Table → Dom → Option (List ℤ)
axis_of ds q d = axis_members (model_domain ds q d)

-- ---- runs of members

-- Whether a range has a member.
abbrev pub is_run : Span → Bool
is_run r = is_none_or r.low (λ a. is_none_or r.high (λ b. int_le a b))

-- The ranges rise, and between one and the next a number is missing.
abbrev pub runs_rise : List Span → Bool
runs_rise [] = true
runs_rise (r ∷ []) = is_run r
runs_rise (r ∷ s ∷ rs) =
    is_some_and r.high (λ b. is_none_or r.low (λ a. int_le a b) && is_some_and s.low (λ c. int_le (b +ℤ pos 2) c)) && runs_rise (s ∷ rs)

-- These are the maximal runs of the members of a domain.
abbrev pub AreRuns : List Span → Domain → Type 0
AreRuns rs d = IsTrue (runs_rise rs) × ((n : ℤ) → list_any (in_span n) rs ≡ is_cell d n)

-- ---- tables over their declarations

-- The table has exactly the declared axes.
abbrev pub over_declared : List TableDecl → Names Table → TableDecl → Table → Bool
over_declared ds q d t = is_filled t && is_some_and (each_of d.axes (axis_of ds q)) (λ as'. same_axes as' t.axes)

-- Each item is in the declared domain.
abbrev pub in_declared : List TableDecl → Names Table → TableDecl → Table → Bool
in_declared ds q d t = is_some_and (model_domain ds q d.cell) (λ c. list_all (is_cell c) t.items)

-- Both.
abbrev pub table_fits : List TableDecl → Names Table → TableDecl → Table → Bool
table_fits ds q d t = over_declared ds q d t && in_declared ds q d t

-- Exactly the declared tables, in the order of their declarations.
abbrev pub tables_fit : List TableDecl → Names Table → List TableDecl → Names Table → Bool
tables_fit ds q [] [] = true
tables_fit ds q (d ∷ fs) (c ∷ cs) = same_text d.name c.0 && table_fits ds q d c.1 && tables_fit ds q fs cs
tables_fit ds q _ _ = false

-- A constraint is true over the given and found tables.
abbrev pub rule_holds : Model → Names Table → Names Table → Ex → Bool
rule_holds E q c e = is_true (model_value (all_decls E) (q ++ c) e)

-- The found tables c satisfy the model under the given tables q.
pub record Sat (E : Model) (q c : Names Table) : Type 0 where
  pub declared : IsTrue (tables_fit (all_decls E) q E.finds c)
  pub rules_hold : IsTrue (list_all (rule_holds E q c) E.rules)

-- The value of the objective: a number, or nothing.
abbrev pub goal_value : Model → Names Table → Names Table → Option ℤ
goal_value E q c = elim E.goal [
  | no_goal ↦ None
  | least e ↦ and_then (model_value (all_decls E) (q ++ c) e) int_of
  | greatest e ↦ and_then (model_value (all_decls E) (q ++ c) e) int_of
]

-- ---- the verdict: the first failure of the first kind

-- What tables fail first.
pub data ModelVerdict : Type 0 where
  satisfied : ModelVerdict
  missing_table extra_table outside_domain : Text → ModelVerdict
  false_rule : ℕ → ModelVerdict
  -- a declared domain has no meaning
  undefined : ModelVerdict

-- Each declared axis and the cell domain have a meaning.
abbrev pub domain_has_meaning : Model → Names Table → TableDecl → Bool
domain_has_meaning E q d =
    list_all (λ a. is_some (model_domain (all_decls E) q a)) d.axes && is_some (model_domain (all_decls E) q d.cell)

-- The first declared table that is missing.
abbrev pub first_missing_table : List TableDecl → Names Table → Option Text
first_missing_table [] c = None
first_missing_table (d ∷ ds) c = if is_among (keys c) d.name then first_missing_table ds c else Some d.name

-- The first table that doesn't stand in the place of its declaration: where none is missing and all are in order of
-- declaration, one that isn't declared, or a second one of its name.
abbrev pub first_extra_table : List TableDecl → Names Table → Option Text
first_extra_table ds [] = None
first_extra_table [] (t ∷ ts) = Some t.0
first_extra_table (d ∷ ds) (t ∷ ts) = if same_text d.name t.0 then first_extra_table ds ts else Some t.0

-- The first declared table that isn't over its axes or has an item outside its domain, where the tables stand in order of
-- declaration.
abbrev pub first_outside : Model → Names Table → List TableDecl → Names Table → Option Text
first_outside E q [] ts = None
first_outside E q (d ∷ ds) [] = Some d.name
first_outside E q (d ∷ ds) (t ∷ ts) = if table_fits (all_decls E) q d t.1 then first_outside E q ds ts else Some d.name

-- The first constraint that is false, counted from k.
abbrev pub first_false : Model → Names Table → Names Table → ℕ → List Ex → Option ℕ
first_false E q c k [] = None
first_false E q c k (e ∷ es) = if rule_holds E q c e then first_false E q c (suc k) es else Some k

-- The verdict on found tables in order of declaration.
abbrev pub model_verdict : Model → Names Table → Names Table → ModelVerdict
model_verdict E q c =
    if not (list_all (domain_has_meaning E q) (all_decls E)) then undefined else (
    elim (first_missing_table E.finds c) [
      | Some x ↦ missing_table x
      | None ↦ elim (first_extra_table E.finds c) [
        | Some x ↦ extra_table x
        | None ↦ elim (first_outside E q E.finds c) [
          | Some x ↦ outside_domain x
          | None ↦ elim (first_false E q c 1 E.rules) [ Some k ↦ false_rule k | None ↦ satisfied ]
        ]
      ]
    ])
