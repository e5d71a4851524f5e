-- What rules make of folds, generators, literals and comparisons stays in scope.
use Rattle.std.specs.Prelude.{IsTrue}
use Rattle.std.proofs.Common.{ℕ, zero, suc, Bool, true, false, ◌&&◌, ◌||◌, if◌then◌else◌, List, [], ◌∷◌, pos, Option, Some, None, not}
use Rattle.ess_semantics.specs.declared.words.Op2.{Op2}
use Rattle.ess_semantics.specs.declared.words.Fun.{Fun}
use Rattle.ess_semantics.specs.Values.{Text, a_record}
use Rattle.ess_semantics.specs.Order.{same_text, same_texts}
use Rattle.ess_semantics.specs.Names.{Names}
use Rattle.ess_semantics.specs.Trees.{to_component, to_field, word, index, tuple_literal, mset_literal, matrix_literal, record_literal, name_pat, Ex, Exs, name_ex, node_ex, comp_ex, ex2, fun1, no_exs, more_exs, Gens, no_gens, over, from, cond, set_literal, relation_literal, number_ex}
use Rattle.ess_semantics.specs.Types.{Ty, Tys, no_tys, more_tys, compound}
use Rattle.ess_semantics.specs.Typing.{type_of}
use Rattle.ess_rules_laws.specs.FoldRules.{is_fold, is_laid_open, fold_alone, fold_nothing, fold_one, fold_bare, fold_term}
use Rattle.ess_rules_laws.specs.LooseRules.{fold_loosely}
use Rattle.ess_rules_laws.specs.SpliceRules.{append_gens}
use Rattle.ess_rules_laws.specs.LiteralRules.{nth, component_listed, unequal_each, unequal_pairs, different_listed, extreme_listed}
use Rattle.ess_rules_laws.specs.FieldLiterals.{field_term, field_listed}
use Rattle.ess_rules_laws.specs.InclusionRules.{both_sets, both_msets, unequal, included_turned, included_strictly}
use Rattle.ess_rules_laws.specs.ComponentRules.{components, equal_from, equal_where, equal_components, are_fields, equal_each, equal_where_fields, equal_fields}
use Rattle.ess_rules_laws.specs.MembershipRules.{equations, member_listed}
use Rattle.ess_rules_laws.specs.ShortSizeRules.{ones_where, frequency_listed}
use Rattle.ess_rules_laws.specs.ChoiceRules.{choice_shorter}
use Rattle.ess_semantics.specs.Scoped.{with_names, Scoped, ScopedExs, ScopedGens}
use Rattle.ess_refine_laws.proofs.WiderScopes.{bound}

module _ (z : Text → Bool) where
  -- ---- generators

  -- What is in scope behind generators.
  pub gens-map : (gs : Gens) (K L : (Text → Bool) → (Text → Bool) → Type 0) → ((u i : Text → Bool) → K u i → L u i) →
      (s o : Text → Bool) → ScopedGens z s o gs K → ScopedGens z s o gs L
  gens-map no_gens K L k s o h = k s o h
  gens-map (over p d gs) K L k s o h = (h.0, h.1, gens-map gs K L k (with_names s p) (with_names o p) h.2)
  gens-map (from p e gs) K L k s o h = (h.0, h.1, gens-map gs K L k (with_names s p) o h.2)
  gens-map (cond c gs) K L k s o h = (h.0, gens-map gs K L k s o h.1)

  -- Generators one behind the other.
  pub append-scoped : (gs hs : Gens) (K : (Text → Bool) → (Text → Bool) → Type 0) (s o : Text → Bool) →
      ScopedGens z s o gs (λ u i. ScopedGens z u i hs K) → ScopedGens z s o (append_gens gs hs) K
  append-scoped no_gens hs K s o h = h
  append-scoped (over p d gs) hs K s o h = (h.0, h.1, append-scoped gs hs K (with_names s p) (with_names o p) h.2)
  append-scoped (from p e gs) hs K s o h = (h.0, h.1, append-scoped gs hs K (with_names s p) o h.2)
  append-scoped (cond c gs) hs K s o h = (h.0, append-scoped gs hs K s o h.1)

  module _ (s o : Text → Bool) where
    -- What a rule answers is in scope.
    abbrev pub InScope : Option Ex → Type 0
    InScope None = Unit {0}
    InScope (Some f) = Scoped z s o f

    pub when : (c : Bool) (f : Ex) → Scoped z s o f → InScope (if c then Some f else None)
    when true f h = h
    when false f h = tt

    pub under : (c : Bool) (r : Option Ex) → InScope r → InScope (if c then r else None)
    under true r h = h
    under false r h = tt

    pub unless : (c : Bool) (r : Option Ex) → InScope r → InScope (if c then None else r)
    unless true r h = tt
    unless false r h = h

    -- ---- folds

    pub nothing : (e : Ex) → Scoped z s o e → InScope (fold_nothing e)
    nothing (fun1 true Fun.And (node_ex false matrix_literal no_exs)) h = tt
    nothing (fun1 true Fun.Or (node_ex false matrix_literal no_exs)) h = tt
    nothing (fun1 false Fun.Sum (node_ex false matrix_literal no_exs)) h = tt
    nothing (fun1 false Fun.Product (node_ex false matrix_literal no_exs)) h = tt
    nothing _ h = tt

    pub one-item : (e : Ex) → Scoped z s o e → InScope (fold_one e)
    one-item (fun1 true Fun.And (node_ex false matrix_literal (more_exs a no_exs))) h = h.0.0
    one-item (fun1 true Fun.Or (node_ex false matrix_literal (more_exs a no_exs))) h = h.0.0
    one-item (fun1 false Fun.Sum (node_ex false matrix_literal (more_exs a no_exs))) h = h.0.0
    one-item (fun1 false Fun.Product (node_ex false matrix_literal (more_exs a no_exs))) h = h.0.0
    one-item _ h = tt

    pub bare : (e : Ex) → Scoped z s o e → InScope (fold_bare e)
    bare (fun1 true Fun.And (comp_ex e no_gens)) h = h.0
    bare (fun1 true Fun.Or (comp_ex e no_gens)) h = h.0
    bare (fun1 false Fun.Sum (comp_ex e no_gens)) h = h.0
    bare (fun1 false Fun.Product (comp_ex e no_gens)) h = h.0
    bare _ h = tt

    pub alone : (e : Ex) → Scoped z s o e → InScope (fold_alone e)
    alone (fun1 true Fun.And (comp_ex e (cond c no_gens))) h = (h.0.0, (h.0.1, tt))
    alone (fun1 true Fun.Or (comp_ex e (cond c no_gens))) h = (h.0.0, (h.0.1, tt))
    alone _ h = tt

    pub term : (x : Text) → IsTrue (not (s x)) → (e : Ex) → Scoped z s o e → InScope (fold_term x e)
    term x n (fun1 b f l) h = go (is_fold f) (is_laid_open l)
      where
        go : (c d : Bool) → InScope (if c then (if d then None else Some (fun1 b f (comp_ex (name_ex x) (from
            (name_pat x) l no_gens)))) else None)
        go true true = tt
        go true false = ((n, h.0, bound x s), tt)
        go false d = tt
    term x n _ h = tt

    pub loosely : (e : Ex) → Scoped z s o e → InScope (fold_loosely e)
    loosely (fun1 true Fun.And (comp_ex e (from p (fun1 false Fun.ToSet a) hs))) h = ((h.0.0, h.0.1.0, h.0.2), tt)
    loosely (fun1 true Fun.Or (comp_ex e (from p (fun1 false Fun.ToSet a) hs))) h = ((h.0.0, h.0.1.0, h.0.2), tt)
    loosely _ h = tt

    -- ---- components

    nth-scoped : (es : Exs) (k : ℕ) → ScopedExs z s o es → InScope (nth es k)
    nth-scoped no_exs k h = tt
    nth-scoped (more_exs a es) zero h = tt
    nth-scoped (more_exs a es) (suc zero) h = h.0
    nth-scoped (more_exs a es) (suc (suc k)) h = nth-scoped es (suc k) h.1

    pub component : (e : Ex) → Scoped z s o e → InScope (component_listed e)
    component (node_ex b (index (to_component k ∷ [])) (more_exs (node_ex false tuple_literal es) no_exs)) h = nth-scoped es k h.0
    component _ h = tt

    field-scoped : (fs : List Text) (es : Exs) (a : Text) → ScopedExs z s o es → InScope (field_term fs es a)
    field-scoped [] es a h = tt
    field-scoped (f ∷ fs) no_exs a h = tt
    field-scoped (f ∷ fs) (more_exs e es) a h = go (same_text f a) (field-scoped fs es a h.1)
      where
        go : (b : Bool) → InScope (field_term fs es a) → InScope (if b then Some e else field_term fs es a)
        go true k = h.0
        go false k = k

    pub field : (e : Ex) → Scoped z s o e → InScope (field_listed e)
    field (node_ex b (index (to_field a ∷ [])) (more_exs (node_ex false (record_literal fs) es) no_exs)) h = field-scoped fs es a h.0
    field _ h = tt

    -- ---- comparisons

    pub apart : (e : Ex) → Scoped z s o e → InScope (unequal e)
    apart (ex2 true Op2.Ne a b) h = (h, tt)
    apart _ h = tt

    pub turns : (e : Ex) → Scoped z s o e → InScope (included_turned e)
    turns (ex2 true Op2.SupsetEq a b) h = (h.1.0, (h.0, tt))
    turns (ex2 true Op2.Supset a b) h = (h.1.0, (h.0, tt))
    turns _ h = tt

    pub strict : (g : Names Ty) (x : Text) (e : Ex) → Scoped z s o e → InScope (included_strictly g x e)
    strict g x (ex2 true Op2.Subset a b) h = when (both_sets (type_of a g) (type_of b g) || both_msets (type_of a g) (type_of b g)) _
        (h, (((h.1.0, (h.0, tt)), tt), tt))
    strict g x _ h = tt

    equal-scoped : (k : ℕ) (ts us : Tys) (a b : Ex) → Scoped z s o a → Scoped z s o b → Scoped z s o (equal_from k ts us a b)
    equal-scoped k no_tys no_tys a b h j = tt
    equal-scoped k (more_tys t ts) (more_tys u us) a b h j =
        (((h, tt), ((j, tt), tt)), (equal-scoped (suc k) ts us a b h j, tt))
    equal-scoped k no_tys (more_tys u us) a b h j = tt
    equal-scoped k (more_tys t ts) no_tys a b h j = tt

    pub tuples : (g : Names Ty) (x : Text) (e : Ex) → Scoped z s o e → InScope (equal_components g x e)
    tuples g x (ex2 true Op2.Eq a b) h = go (components (type_of a g)) (components (type_of b g))
      where
        go : (t u : Option Tys) → InScope (equal_where t u a b)
        go (Some ts) (Some us) = equal-scoped 1 ts us a b h.0 h.1.0
        go None u = tt
        go (Some ts) None = tt
    tuples g x _ h = tt

    fields-scoped : (fs : List Text) (ts us : Tys) (a b : Ex) → Scoped z s o a → Scoped z s o b → Scoped z s o (equal_each fs ts us a b)
    fields-scoped (f ∷ fs) (more_tys t ts) (more_tys u us) a b h j = (((h, tt), ((j, tt), tt)), (fields-scoped fs ts us a b h j, tt))
    fields-scoped _ _ _ a b h j = tt

    pub records : (g : Names Ty) (x : Text) (e : Ex) → Scoped z s o e → InScope (equal_fields g x e)
    records g x (ex2 true Op2.Eq a b) h = go (type_of a g) (type_of b g)
      where
        go : (t u : Option Ty) → InScope (equal_where_fields t u a b)
        go (Some (compound (a_record fs) ts)) (Some (compound (a_record gs) us)) =
            when (same_texts fs gs && are_fields fs ts us) (equal_each fs ts us a b) (fields-scoped fs ts us a b h.0 h.1.0)
        go _ _ = tt
    records g x _ h = tt

    -- ---- literals

    equations-scoped : (x : Ex) (es : Exs) → Scoped z s o x → ScopedExs z s o es → ScopedExs z s o (equations x es)
    equations-scoped x no_exs h k = tt
    equations-scoped x (more_exs a es) h k = ((h, (k.0, tt)), equations-scoped x es h k.1)

    pub in-literal : (e : Ex) → Scoped z s o e → InScope (member_listed e)
    in-literal (ex2 true Op2.Member x (node_ex false set_literal es)) h = (equations-scoped x es h.0 h.1.0, tt)
    in-literal (ex2 true Op2.Member x (node_ex false mset_literal es)) h = (equations-scoped x es h.0 h.1.0, tt)
    in-literal (ex2 true Op2.Member x (node_ex false relation_literal es)) h = (equations-scoped x es h.0 h.1.0, tt)
    in-literal _ h = tt

    ones-scoped : (a : Ex) (es : Exs) → Scoped z s o a → ScopedExs z s o es → ScopedExs z s o (ones_where a es)
    ones-scoped a no_exs h k = tt
    ones-scoped a (more_exs b es) h k = (((k.0, (h, tt)), tt), ones-scoped a es h k.1)

    pub frequency-listed : (e : Ex) → Scoped z s o e → InScope (frequency_listed e)
    frequency-listed (node_ex false (word Fun.Freq) (more_exs (node_ex false mset_literal es) (more_exs a no_exs))) h =
        (ones-scoped a es h.1.0 h.0, tt)
    frequency-listed _ h = tt

    pub least-listed : (e : Ex) → Scoped z s o e → InScope (extreme_listed e)
    least-listed (fun1 b Fun.Min (node_ex false set_literal es)) h = h
    least-listed (fun1 b Fun.Max (node_ex false set_literal es)) h = h
    least-listed (fun1 b Fun.Min (node_ex false mset_literal es)) h = h
    least-listed (fun1 b Fun.Max (node_ex false mset_literal es)) h = h
    least-listed _ h = tt

    each-unequal : (a : Ex) (es rest : Exs) → Scoped z s o a → ScopedExs z s o es → ScopedExs z s o rest →
        ScopedExs z s o (unequal_each a es rest)
    each-unequal a no_exs rest h k l = l
    each-unequal a (more_exs b es) rest h k l = ((k.0, (h, tt)), each-unequal a es rest h k.1 l)

    pairs-scoped : (es : Exs) → ScopedExs z s o es → ScopedExs z s o (unequal_pairs es)
    pairs-scoped no_exs h = tt
    pairs-scoped (more_exs a es) h = each-unequal a es (unequal_pairs es) h.0 h.1 (pairs-scoped es h.1)

    pub different-listed : (e : Ex) → Scoped z s o e → InScope (different_listed e)
    different-listed (fun1 true Fun.AllDiff (node_ex false matrix_literal es)) h = (pairs-scoped es h.0, tt)
    different-listed _ h = tt

    pub chosen-shorter : (e : Ex) → Scoped z s o e → InScope (choice_shorter e)
    chosen-shorter (ex2 false Op2.Times (fun1 false Fun.ToInt c) (fun1 false Fun.ToInt d)) h = ((h.0.0, (h.1.0.0, tt)), tt)
    chosen-shorter (ex2 false Op2.Times (fun1 false Fun.ToInt c) (number_ex (pos (suc zero)))) h = (h.0.0, tt)
    chosen-shorter _ h = tt
