-- Rules of folds, generators, literals and comparisons keep what the parts of a tree have.
use Rattle.std.proofs.Common.{ℕ, zero, suc, Bool, true, false, ◌&&◌, ◌||◌, if◌then◌else◌, List, [], ◌∷◌, Option, Some, None}
use Rattle.std.specs.Prelude.{IsTrue}
use Rattle.ess_semantics.specs.declared.words.Op2.{Op2}
use Rattle.ess_semantics.specs.declared.words.Fun.{Fun}
use Rattle.ess_semantics.specs.Lists.{and_then}
use Rattle.ess_semantics.specs.Values.{Text, a_record}
use Rattle.ess_semantics.specs.Order.{same_text, same_texts}
use Rattle.ess_semantics.specs.Names.{Names}
use Rattle.ess_semantics.specs.Trees.{Op, to_component, to_field, word, index, tuple_literal, mset_literal, matrix_literal, record_literal, Pat, Pats, more_pats, no_pats, name_pat, tuple_pat, Ex, Exs, name_ex, node_ex, comp_ex, ex2, fun1, no_exs, more_exs, Gens, no_gens, over, from, cond, Doms, no_doms, more_doms, tuple_dom, record_dom}
use Rattle.ess_semantics.specs.Types.{Ty, Tys, no_tys, more_tys, compound}
use Rattle.ess_semantics.specs.Typing.{type_of}
use Rattle.ess_semantics.specs.ExpressionJudgements.{forgets_order}
use Rattle.ess_semantics.specs.Substitution.{substitute, substitute_gens, for_name}
use Rattle.ess_rules_laws.specs.FoldRules.{is_fold, is_laid_open, fold_alone, fold_nothing, fold_one, fold_bare, fold_term}
use Rattle.ess_rules_laws.specs.LooseRules.{fold_loosely}
use Rattle.ess_rules_laws.specs.SourceRules.{is_marked, each_fold, fold_items}
use Rattle.ess_rules_laws.specs.SpliceRules.{append_gens, splice}
use Rattle.ess_rules_laws.specs.SplitRules.{as_many, each_over, split}
use Rattle.ess_rules_laws.specs.TupleNames.{tuples_over, name_over_tuple, are_names}
use Rattle.ess_rules_laws.specs.Listings.{Alternative}
use Rattle.ess_rules_laws.specs.ListedSources.{put_listed, source_alone, each_put, source_parts}
use Rattle.ess_rules_laws.specs.LiteralRules.{nth, component_listed}
use Rattle.ess_rules_laws.specs.FieldLiterals.{field_term, field_listed}
use Rattle.ess_rules_laws.specs.InclusionRules.{both_sets, both_msets, unequal, included_turned, included_strictly}
use Rattle.ess_rules_laws.specs.ComponentRules.{components, equal_from, equal_where, equal_components, are_fields, equal_each, equal_where_fields, equal_fields}
use Rattle.ess_refine_laws.specs.RecordNames.{are_in_order, records_over, name_over_record}
use Rattle.ess_refine_laws.specs.AllRules.{only_one}
use Rattle.ess_given_laws.specs.PartsHave.{Wanted, PartsHave, AllHave, GensHave}
use Rattle.ess_given_laws.proofs.PartsHave.{Puts, put-parts, put-gens, append-parts}

module _ (w : Wanted) where
  -- What a rule answers has what is wanted.
  abbrev pub Answers : Option Ex → Type 0
  Answers None = Unit {0}
  Answers (Some f) = PartsHave w f

  -- Each alternative has it.
  abbrev pub HaveAll : List Alternative → Type 0
  HaveAll [] = Unit {0}
  HaveAll (a ∷ l) = (PartsHave w a.item × GensHave w a.gens) × HaveAll l

  abbrev pub HaveSome : Option (List Alternative) → Type 0
  HaveSome None = Unit {0}
  HaveSome (Some l) = HaveAll l

  -- Their items may be put in for the name.
  abbrev pub PutsAll : Text → List Alternative → Type 0
  PutsAll y [] = Unit {0}
  PutsAll y (a ∷ l) = Puts w y a.item × PutsAll y l

  abbrev pub PutsSome : Text → Option (List Alternative) → Type 0
  PutsSome y None = Unit {0}
  PutsSome y (Some l) = PutsAll y l

  -- Each of the expressions may be put in for the name.
  abbrev pub PutsEach : Text → Exs → Type 0
  PutsEach y no_exs = Unit {0}
  PutsEach y (more_exs a es) = Puts w y a × PutsEach y es

  -- Each of the domains has it, and each of the patterns.
  abbrev pub DomsHave : Doms → Type 0
  DomsHave no_doms = Unit {0}
  DomsHave (more_doms d ds) = IsTrue (w.dom d) × DomsHave ds

  abbrev pub PatsHave : Pats → Type 0
  PatsHave no_pats = Unit {0}
  PatsHave (more_pats p ps) = IsTrue (w.binds p) × PatsHave ps

  pub when : (c : Bool) (f : Ex) → PartsHave w f → Answers (if c then Some f else None)
  when true f h = h
  when false f h = tt

  pub under : (c : Bool) (r : Option Ex) → Answers r → Answers (if c then r else None)
  under true r h = h
  under false r h = tt

  -- ---- folds

  pub nothing : (e : Ex) → PartsHave w e → Answers (fold_nothing e)
  nothing (fun1 true Fun.And (node_ex false matrix_literal no_exs)) h = tt
  nothing (fun1 true Fun.Or (node_ex false matrix_literal no_exs)) h = tt
  nothing (fun1 false Fun.Sum (node_ex false matrix_literal no_exs)) h = tt
  nothing (fun1 false Fun.Product (node_ex false matrix_literal no_exs)) h = tt
  nothing _ h = tt

  pub one-item : (e : Ex) → PartsHave w e → Answers (fold_one e)
  one-item (fun1 true Fun.And (node_ex false matrix_literal (more_exs a no_exs))) h = h.0.0
  one-item (fun1 true Fun.Or (node_ex false matrix_literal (more_exs a no_exs))) h = h.0.0
  one-item (fun1 false Fun.Sum (node_ex false matrix_literal (more_exs a no_exs))) h = h.0.0
  one-item (fun1 false Fun.Product (node_ex false matrix_literal (more_exs a no_exs))) h = h.0.0
  one-item _ h = tt

  pub bare : (e : Ex) → PartsHave w e → Answers (fold_bare e)
  bare (fun1 true Fun.And (comp_ex e no_gens)) h = h.0.0
  bare (fun1 true Fun.Or (comp_ex e no_gens)) h = h.0.0
  bare (fun1 false Fun.Sum (comp_ex e no_gens)) h = h.0.0
  bare (fun1 false Fun.Product (comp_ex e no_gens)) h = h.0.0
  bare _ h = tt

  pub alone : (e : Ex) → PartsHave w e → Answers (fold_alone e)
  alone (fun1 true Fun.And (comp_ex e (cond c no_gens))) h = (h.0.1.0, (h.0.0, tt))
  alone (fun1 true Fun.Or (comp_ex e (cond c no_gens))) h = (h.0.1.0, (h.0.0, tt))
  alone _ h = tt

  pub term : (x : Text) → IsTrue (w.name x) → ((k : Ex) → IsTrue (w.draws (name_pat x) k)) → (e : Ex) → PartsHave w e →
      Answers (fold_term x e)
  term x n draws (fun1 b f l) h = go (is_fold f) (is_laid_open l)
    where
      go : (c d : Bool) → Answers (if c then (if d then None else Some (fun1 b f (comp_ex (name_ex x) (from (name_pat x) l no_gens))))
          else None)
      go true true = tt
      go true false = ((n, (draws _, h.0, tt)), tt)
      go false d = tt
  term x n draws _ h = tt

  pub loosely : ((p : Pat) (s : Ex) → IsTrue (w.draws p (fun1 false Fun.ToSet s)) → IsTrue (w.draws p s)) → (e : Ex) → PartsHave w e →
      Answers (fold_loosely e)
  loosely k (fun1 true Fun.And (comp_ex e (from p (fun1 false Fun.ToSet s) hs))) h = ((h.0.0, (k p s h.0.1.0, h.0.1.1.0, h.0.1.2)), tt)
  loosely k (fun1 true Fun.Or (comp_ex e (from p (fun1 false Fun.ToSet s) hs))) h = ((h.0.0, (k p s h.0.1.0, h.0.1.1.0, h.0.1.2)), tt)
  loosely k _ h = tt

  -- ---- generators

  -- A comprehension with a term for a name.
  pub put-comp : (y : Text) (t e : Ex) (ks hs : Gens) → Puts w y t → GensHave w ks → PartsHave w e → GensHave w hs →
      PartsHave w (comp_ex (substitute (for_name y t) e) (append_gens ks (substitute_gens (for_name y t) hs)))
  put-comp y t e ks hs p g k l =
      (put-parts w y t p e k, append-parts w ks (substitute_gens (for_name y t) hs) g (put-gens w y t p hs l))

  each-item-has : (m : Bool) (f : Fun) (y : Text) (e : Ex) (hs : Gens) (es : Exs) → PutsEach y es → PartsHave w e →
      GensHave w hs → AllHave w (each_fold m f y e hs es)
  each-item-has m f y e hs no_exs p k l = tt
  each-item-has m f y e hs (more_exs a es) p k l = ((put-comp y a e no_gens hs p.0 tt k l, tt), each-item-has m f y e hs es p.1 k l)

  marked : (c : Bool) (b : Bool) (f : Fun) (es : Exs) → AllHave w es →
      Answers (if c then Some (fun1 b f (node_ex false matrix_literal es)) else None)
  marked true b f es h = (h, tt)
  marked false b f es h = tt

  pub literal-items : (puts : (y : Text) (b : Bool) (op : Op) (es : Exs) → IsTrue (w.draws (name_pat y) (node_ex b op es)) →
      AllHave w es → PutsEach y es) →
      (e : Ex) → PartsHave w e → Answers (fold_items e)
  literal-items puts (fun1 b f (comp_ex e (from (name_pat y) (node_ex false matrix_literal es) hs))) h =
      marked (is_marked b f) b f (each_fold b f y e hs es)
      (each-item-has b f y e hs es (puts y false matrix_literal es h.0.1.0 h.0.1.1) h.0.0 h.0.1.2)
  literal-items puts (fun1 b f (comp_ex e (from (name_pat y) (node_ex false mset_literal es) hs))) h =
      marked (is_marked b f) b f (each_fold b f y e hs es)
      (each-item-has b f y e hs es (puts y false mset_literal es h.0.1.0 h.0.1.1) h.0.0 h.0.1.2)
  literal-items puts _ h = tt

  each-put-has : (m : Bool) (f : Fun) (y : Text) (e : Ex) (hs : Gens) (l : List Alternative) → HaveAll l → PutsAll y l →
      PartsHave w e → GensHave w hs → AllHave w (each_put m f y e hs l)
  each-put-has m f y e hs [] h p k j = tt
  each-put-has m f y e hs (a ∷ l) h p k j =
      ((put-comp y a.item e a.gens hs p.0 h.0.1 k j, tt), each-put-has m f y e hs l h.1 p.1 k j)

  -- The alternatives of a source.
  pub in-parts : (b : Bool) (f : Fun) (y : Text) (e t : Ex) (hs : Gens) (r : Option (List Alternative)) → HaveSome r → PutsSome y r →
      PartsHave w e → GensHave w hs →
      Answers (and_then r (λ l. source_parts l (fun1 b f (comp_ex e (from (name_pat y) t hs)))))
  in-parts b f y e t hs None h p k j = tt
  in-parts b f y e t hs (Some l) h p k j = marked (is_marked b f) b f (each_put b f y e hs l) (each-put-has b f y e hs l h p k j)

  pub in-one-part : (b : Bool) (f : Fun) (y : Text) (e t : Ex) (hs : Gens) (r : Option (List Alternative)) → HaveSome r → PutsSome y r →
      PartsHave w e → GensHave w hs →
      Answers (and_then (only_one r) (λ a. source_alone a (fun1 b f (comp_ex e (from (name_pat y) t hs)))))
  in-one-part b f y e t hs None h p k j = tt
  in-one-part b f y e t hs (Some []) h p k j = tt
  in-one-part b f y e t hs (Some (a ∷ [])) h p k j =
      when (forgets_order (word f)) (fun1 b f (put_listed y e hs a)) (put-comp y a.item e a.gens hs p.0 h.0.1 k j, tt)
  in-one-part b f y e t hs (Some (a ∷ c ∷ l)) h p k j = tt

  pub spliced : (puts : (y : Text) (k : Ex) (ks : Gens) → IsTrue (w.draws (name_pat y) (comp_ex k ks)) → PartsHave w k → Puts w y k) →
      (e : Ex) → PartsHave w e → Answers (splice e)
  spliced puts (comp_ex e (from (name_pat y) (comp_ex k ks) hs)) h =
      put-comp y k e ks hs (puts y k ks h.1.0 h.1.1.0) h.1.1.1 h.0 h.1.2
  spliced puts _ h = tt

  each-over-has : (ps : Pats) (ds : Doms) (hs : Gens) → PatsHave ps → DomsHave ds → GensHave w hs → GensHave w (each_over ps ds hs)
  each-over-has (more_pats p ps) (more_doms d ds) hs n h k = (n.0, h.0, each-over-has ps ds hs n.1 h.1 k)
  each-over-has no_pats ds hs n h k = k
  each-over-has (more_pats p ps) no_doms hs n h k = k

  pub splits : ((ps : Pats) → IsTrue (w.binds (tuple_pat ps)) → PatsHave ps) →
      ((ds : Doms) → IsTrue (w.dom (tuple_dom ds)) → DomsHave ds) → (e : Ex) → PartsHave w e → Answers (split e)
  splits pats doms (comp_ex e (over (tuple_pat ps) (tuple_dom ds) hs)) h =
      when (as_many ps ds) (comp_ex e (each_over ps ds hs)) (h.0, each-over-has ps ds hs (pats ps h.1.0) (doms ds h.1.1) h.1.2)
  splits pats doms _ h = tt

  pub tuple-name : (ys : List Text) →
      ((x : Text) (ds : Doms) → IsTrue (w.binds (name_pat x)) → IsTrue (w.dom (tuple_dom ds)) →
      IsTrue (w.draws (name_pat x) (tuples_over ys ds)) × PartsHave w (tuples_over ys ds)) →
      (e : Ex) → PartsHave w e → Answers (name_over_tuple ys e)
  tuple-name ys n (comp_ex e (over (name_pat x) (tuple_dom ds) hs)) h = let k = n x ds h.1.0 h.1.1 in
      when (are_names ys ds) _ (h.0, (k.0, k.1, h.1.2))
  tuple-name ys n _ h = tt

  pub record-name : (ys : List Text) →
      ((x : Text) (fs : List Text) (ds : Doms) → IsTrue (w.binds (name_pat x)) → IsTrue (w.dom (record_dom fs ds)) →
      IsTrue (w.draws (name_pat x) (records_over fs ys ds)) × PartsHave w (records_over fs ys ds)) →
      (e : Ex) → PartsHave w e → Answers (name_over_record ys e)
  record-name ys n (comp_ex e (over (name_pat x) (record_dom fs ds) hs)) h = let k = n x fs ds h.1.0 h.1.1 in
      when (are_names ys ds && are_in_order fs ds) _ (h.0, (k.0, k.1, h.1.2))
  record-name ys n _ h = tt

  -- ---- components

  nth-names : (es : Exs) (k : ℕ) → AllHave w es → Answers (nth es k)
  nth-names no_exs k h = tt
  nth-names (more_exs a es) zero h = tt
  nth-names (more_exs a es) (suc zero) h = h.0
  nth-names (more_exs a es) (suc (suc k)) h = nth-names es (suc k) h.1

  pub component : (e : Ex) → PartsHave w e → Answers (component_listed e)
  component (node_ex b (index (to_component k ∷ [])) (more_exs (node_ex false tuple_literal es) no_exs)) h = nth-names es k h.0
  component _ h = tt

  field-names : (fs : List Text) (es : Exs) (a : Text) → AllHave w es → Answers (field_term fs es a)
  field-names [] es a h = tt
  field-names (f ∷ fs) no_exs a h = tt
  field-names (f ∷ fs) (more_exs e es) a h = go (same_text f a) (field-names fs es a h.1)
    where
      go : (b : Bool) → Answers (field_term fs es a) → Answers (if b then Some e else field_term fs es a)
      go true k = h.0
      go false k = k

  pub field : (e : Ex) → PartsHave w e → Answers (field_listed e)
  field (node_ex b (index (to_field a ∷ [])) (more_exs (node_ex false (record_literal fs) es) no_exs)) h = field-names fs es a h.0
  field _ h = tt

  -- ---- comparisons

  pub apart : (e : Ex) → PartsHave w e → Answers (unequal e)
  apart (ex2 true Op2.Ne a b) h = (h, tt)
  apart _ h = tt

  pub turns : (e : Ex) → PartsHave w e → Answers (included_turned e)
  turns (ex2 true Op2.SupsetEq a b) h = (h.1.0, (h.0, tt))
  turns (ex2 true Op2.Supset a b) h = (h.1.0, (h.0, tt))
  turns _ h = tt

  pub strict : (g : Names Ty) (x : Text) (e : Ex) → PartsHave w e → Answers (included_strictly g x e)
  strict g x (ex2 true Op2.Subset a b) h = when (both_sets (type_of a g) (type_of b g) || both_msets (type_of a g) (type_of b g)) _
      (h, (((h.1.0, (h.0, tt)), tt), tt))
  strict g x _ h = tt

  equal-names : (k : ℕ) (ts us : Tys) (a b : Ex) → PartsHave w a → PartsHave w b → PartsHave w (equal_from k ts us a b)
  equal-names k no_tys no_tys a b h j = tt
  equal-names k (more_tys t ts) (more_tys v us) a b h j = (((h, tt), ((j, tt), tt)), (equal-names (suc k) ts us a b h j, tt))
  equal-names k no_tys (more_tys v us) a b h j = tt
  equal-names k (more_tys t ts) no_tys a b h j = tt

  pub tuples : (g : Names Ty) (x : Text) (e : Ex) → PartsHave w e → Answers (equal_components g x e)
  tuples g x (ex2 true Op2.Eq a b) h = go (components (type_of a g)) (components (type_of b g))
    where
      go : (t v : Option Tys) → Answers (equal_where t v a b)
      go (Some ts) (Some us) = equal-names 1 ts us a b h.0 h.1.0
      go None v = tt
      go (Some ts) None = tt
  tuples g x _ h = tt

  fields-have : (fs : List Text) (ts us : Tys) (a b : Ex) → PartsHave w a → PartsHave w b → PartsHave w (equal_each fs ts us a b)
  fields-have (f ∷ fs) (more_tys t ts) (more_tys v us) a b h j = (((h, tt), ((j, tt), tt)), (fields-have fs ts us a b h j, tt))
  fields-have _ _ _ a b h j = tt

  pub records : (g : Names Ty) (x : Text) (e : Ex) → PartsHave w e → Answers (equal_fields g x e)
  records g x (ex2 true Op2.Eq a b) h = go (type_of a g) (type_of b g)
    where
      go : (t v : Option Ty) → Answers (equal_where_fields t v a b)
      go (Some (compound (a_record fs) ts)) (Some (compound (a_record gs) us)) =
          when (same_texts fs gs && are_fields fs ts us) (equal_each fs ts us a b) (fields-have fs ts us a b h.0 h.1.0)
      go _ _ = tt
  records g x _ h = tt
