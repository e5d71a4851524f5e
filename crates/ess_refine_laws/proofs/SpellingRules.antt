-- Each rule spells no new numbers but 0 and 1.
use Rattle.std.proofs.Common.{◌≡◌, refl, ℕ, zero, suc, Bool, true, false, ◌&&◌, ◌||◌, if◌then◌else◌, List, [], ◌∷◌, ℤ, pos, Option, Some, None}
use Rattle.ess_semantics.specs.declared.words.Op2.{Op2}
use Rattle.ess_semantics.specs.declared.words.Fun.{Fun}
use Rattle.ess_semantics.specs.Lists.{and_then}
use Rattle.ess_semantics.specs.Values.{Text, a_record}
use Rattle.ess_semantics.specs.Order.{same_text, same_texts}
use Rattle.ess_semantics.specs.Names.{Names}
use Rattle.ess_semantics.specs.Trees.{to_component, to_field, word, index, tuple_literal, mset_literal, matrix_literal, record_literal, Pats, more_pats, no_pats, name_pat, tuple_pat, Ex, Exs, name_ex, node_ex, comp_ex, ex2, fun1, no_exs, more_exs, Gens, no_gens, over, from, cond, Doms, no_doms, more_doms, tuple_dom, record_dom}
use Rattle.ess_semantics.specs.Types.{Ty, Tys, no_tys, more_tys, compound}
use Rattle.ess_semantics.specs.Typing.{type_of}
use Rattle.ess_semantics.specs.ExpressionJudgements.{forgets_order}
use Rattle.ess_semantics.specs.Substitution.{substitute, substitute_gens, for_name}
use Rattle.ess_semantics.specs.Constants.{drops_items}
use Rattle.ess_rules_laws.specs.FoldRules.{is_fold, is_laid_open, fold_alone, fold_nothing, fold_one, fold_bare, fold_term}
use Rattle.ess_rules_laws.specs.LooseRules.{fold_loosely}
use Rattle.ess_rules_laws.specs.SourceRules.{is_marked, each_fold, fold_items}
use Rattle.ess_rules_laws.specs.SpliceRules.{append_gens, splice}
use Rattle.ess_rules_laws.specs.SplitRules.{as_many, each_over, split}
use Rattle.ess_rules_laws.specs.TupleNames.{named_exs, name_over_tuple, are_names}
use Rattle.ess_rules_laws.specs.Listings.{Alternative}
use Rattle.ess_rules_laws.specs.ListedSources.{put_listed, source_alone, each_put, source_parts}
use Rattle.ess_rules_laws.specs.LiteralRules.{nth, component_listed}
use Rattle.ess_rules_laws.specs.FieldLiterals.{field_term, field_listed}
use Rattle.ess_rules_laws.specs.InclusionRules.{both_sets, both_msets, unequal, included_turned, included_strictly}
use Rattle.ess_rules_laws.specs.ComponentRules.{components, equal_from, equal_where, equal_components, are_fields, equal_each, equal_where_fields, equal_fields}
use Rattle.ess_refine_laws.specs.RecordNames.{are_in_order, name_over_record}
use Rattle.ess_refine_laws.specs.AllRules.{only_one}
use Rattle.ess_refine_laws.specs.Spelling.{Spells, SpellsEach, SpellsGens, SpellsDoms, is_list_literal}
use Rattle.ess_refine_laws.proofs.Spelling.{inside, outside, put-spells, put-gens, for-name, append-spells}
use Rattle.ess_refine_laws.proofs.SpellingParts.{SpellsAll, SpellsSome}

-- What isn't laid open is no list literal.
not-open : (e : Ex) → is_laid_open e ≡ false → is_list_literal e ≡ false
not-open (node_ex false matrix_literal es) k = cc
not-open (comp_ex e gs) k = refl
not-open _ k = refl

module _ (q : ℤ → Bool) (o : q (pos 0) ≡ true) (i : q (pos 1) ≡ true) where
  -- What a rule answers spells no more.
  abbrev pub Answers : Bool → Option Ex → Type 0
  Answers m None = Unit {0}
  Answers m (Some f) = Spells q m f

  pub when : (c : Bool) (m : Bool) (f : Ex) → Spells q m f → Answers m (if c then Some f else None)
  when true m f h = h
  when false m f h = tt

  pub under : (c : Bool) (m : Bool) (r : Option Ex) → Answers m r → Answers m (if c then r else None)
  under true m r h = h
  under false m r h = tt

  -- ---- folds

  pub nothing : (m : Bool) (e : Ex) → Spells q m e → Answers m (fold_nothing e)
  nothing m (fun1 true Fun.And (node_ex false matrix_literal no_exs)) h = tt
  nothing m (fun1 true Fun.Or (node_ex false matrix_literal no_exs)) h = tt
  nothing m (fun1 false Fun.Sum (node_ex false matrix_literal no_exs)) h = o
  nothing m (fun1 false Fun.Product (node_ex false matrix_literal no_exs)) h = i
  nothing m _ h = tt

  pub one-item : (m : Bool) (e : Ex) → Spells q m e → Answers m (fold_one e)
  one-item m (fun1 true Fun.And (node_ex false matrix_literal (more_exs a no_exs))) h = inside q m a h.1.0.1.0
  one-item m (fun1 true Fun.Or (node_ex false matrix_literal (more_exs a no_exs))) h = inside q m a h.1.0.1.0
  one-item m (fun1 false Fun.Sum (node_ex false matrix_literal (more_exs a no_exs))) h = inside q m a h.1.0.1.0
  one-item m (fun1 false Fun.Product (node_ex false matrix_literal (more_exs a no_exs))) h = inside q m a h.1.0.1.0
  one-item m _ h = tt

  pub bare : (m : Bool) (e : Ex) → Spells q m e → Answers m (fold_bare e)
  bare m (fun1 true Fun.And (comp_ex e no_gens)) h = inside q m e h.1.0.0
  bare m (fun1 true Fun.Or (comp_ex e no_gens)) h = inside q m e h.1.0.0
  bare m (fun1 false Fun.Sum (comp_ex e no_gens)) h = inside q m e h.1.0.0
  bare m (fun1 false Fun.Product (comp_ex e no_gens)) h = inside q m e h.1.0.0
  bare m _ h = tt

  pub alone : (m : Bool) (e : Ex) → Spells q m e → Answers m (fold_alone e)
  alone m (fun1 true Fun.And (comp_ex e (cond c no_gens))) h = (refl, (h.1.0.1.0, (h.1.0.0, tt)))
  alone m (fun1 true Fun.Or (comp_ex e (cond c no_gens))) h = (refl, (h.1.0.1.0, (h.1.0.0, tt)))
  alone m _ h = tt

  -- A list that isn't laid open, as a source.
  as-source : (f : Bool) (l : Ex) → is_list_literal l ≡ false → Spells q f l → Spells q false l
  as-source true l k h = outside q l k h
  as-source false l k h = h

  pub term : (x : Text) (m : Bool) (e : Ex) → Spells q m e → Answers m (fold_term x e)
  term x m (fun1 b f l) h = go (is_fold f) (is_laid_open l) refl
    where
      go : (c d : Bool) → is_laid_open l ≡ d →
          Answers m (if c then (if d then None else Some (fun1 b f (comp_ex (name_ex x) (from (name_pat x) l no_gens)))) else None)
      go true true k = tt
      go true false k = (refl, ((tt, (as-source (drops_items (word f)) l (not-open l k) h.1.0, tt)), tt))
      go false d k = tt
  term x m _ h = tt

  pub loosely : (m : Bool) (e : Ex) → Spells q m e → Answers m (fold_loosely e)
  loosely m (fun1 true Fun.And (comp_ex e (from p (fun1 false Fun.ToSet s) hs))) h =
      (refl, ((h.1.0.0, (h.1.0.1.0.1.0, h.1.0.1.1)), tt))
  loosely m (fun1 true Fun.Or (comp_ex e (from p (fun1 false Fun.ToSet s) hs))) h =
      (refl, ((h.1.0.0, (h.1.0.1.0.1.0, h.1.0.1.1)), tt))
  loosely m _ h = tt

  -- ---- generators

  -- A comprehension with a term for a name.
  put-comp : (y : Text) (w e : Ex) (ks hs : Gens) → Spells q false w → SpellsGens q ks → Spells q false e → SpellsGens q hs →
      Spells q false (comp_ex (substitute (for_name y w) e) (append_gens ks (substitute_gens (for_name y w) hs)))
  put-comp y w e ks hs h g k l = (
    put-spells q (for_name y w) (for-name q y w h) e false k,
    append-spells q ks (substitute_gens (for_name y w) hs) g (put-gens q (for_name y w) (for-name q y w h) hs l),
  )

  each-item-spells : (m : Bool) (f : Fun) (y : Text) (e : Ex) (hs : Gens) (es : Exs) → SpellsEach q false es → Spells q false e →
      SpellsGens q hs → SpellsEach q false (each_fold m f y e hs es)
  each-item-spells m f y e hs no_exs h k l = tt
  each-item-spells m f y e hs (more_exs a es) h k l =
      ((refl, (put-comp y a e no_gens hs h.0 tt k l, tt)), each-item-spells m f y e hs es h.1 k l)

  -- A list of folds in a fold isn't counted.
  fold-of : (m b : Bool) (f : Fun) (es : Exs) → is_marked b f ≡ true → SpellsEach q false es →
      Spells q m (fun1 b f (node_ex false matrix_literal es))
  fold-of m true Fun.And es k h = (refl, ((refl, h), tt))
  fold-of m true Fun.Or es k h = (refl, ((refl, h), tt))
  fold-of m false Fun.Sum es k h = (refl, ((refl, h), tt))
  fold-of m false Fun.Product es k h = (refl, ((refl, h), tt))
  fold-of m _ _ es k h = cc

  marked : (c : Bool) (m b : Bool) (f : Fun) (es : Exs) → is_marked b f ≡ c → SpellsEach q false es →
      Answers m (if c then Some (fun1 b f (node_ex false matrix_literal es)) else None)
  marked true m b f es k h = fold-of m b f es k h
  marked false m b f es k h = tt

  pub literal-items : (m : Bool) (e : Ex) → Spells q m e → Answers m (fold_items e)
  literal-items m (fun1 b f (comp_ex e (from (name_pat y) (node_ex false matrix_literal es) hs))) h =
      marked (is_marked b f) m b f (each_fold b f y e hs es) refl (each-item-spells b f y e hs es h.1.0.1.0.1 h.1.0.0 h.1.0.1.1)
  literal-items m (fun1 b f (comp_ex e (from (name_pat y) (node_ex false mset_literal es) hs))) h =
      marked (is_marked b f) m b f (each_fold b f y e hs es) refl (each-item-spells b f y e hs es h.1.0.1.0.1 h.1.0.0 h.1.0.1.1)
  literal-items m _ h = tt

  each-put-spells : (m : Bool) (f : Fun) (y : Text) (e : Ex) (hs : Gens) (l : List Alternative) → SpellsAll q l → Spells q false e →
      SpellsGens q hs → SpellsEach q false (each_put m f y e hs l)
  each-put-spells m f y e hs [] h k j = tt
  each-put-spells m f y e hs (a ∷ l) h k j =
      ((refl, (put-comp y a.item e a.gens hs h.0.0 h.0.1 k j, tt)), each-put-spells m f y e hs l h.1 k j)

  -- The alternatives of a source.
  pub in-parts : (m b : Bool) (f : Fun) (y : Text) (e t : Ex) (hs : Gens) (r : Option (List Alternative)) → SpellsSome q r →
      Spells q false e → SpellsGens q hs →
      Answers m (and_then r (λ l. source_parts l (fun1 b f (comp_ex e (from (name_pat y) t hs)))))
  in-parts m b f y e t hs None h k j = tt
  in-parts m b f y e t hs (Some l) h k j =
      marked (is_marked b f) m b f (each_put b f y e hs l) refl (each-put-spells b f y e hs l h k j)

  pub in-one-part : (m b : Bool) (f : Fun) (y : Text) (e t : Ex) (hs : Gens) (r : Option (List Alternative)) → SpellsSome q r →
      Spells q false e → SpellsGens q hs →
      Answers m (and_then (only_one r) (λ a. source_alone a (fun1 b f (comp_ex e (from (name_pat y) t hs)))))
  in-one-part m b f y e t hs None h k j = tt
  in-one-part m b f y e t hs (Some []) h k j = tt
  in-one-part m b f y e t hs (Some (a ∷ [])) h k j =
      when (forgets_order (word f)) m (fun1 b f (put_listed y e hs a)) (refl, (put-comp y a.item e a.gens hs h.0.0 h.0.1 k j, tt))
  in-one-part m b f y e t hs (Some (a ∷ c ∷ l)) h k j = tt

  pub spliced : (m : Bool) (e : Ex) → Spells q m e → Answers m (splice e)
  spliced m (comp_ex e (from (name_pat y) (comp_ex k ks) hs)) h = put-comp y k e ks hs h.1.0.0 h.1.0.1 h.0 h.1.1
  spliced m _ h = tt

  each-over-spells : (ps : Pats) (ds : Doms) (hs : Gens) → SpellsDoms q ds → SpellsGens q hs → SpellsGens q (each_over ps ds hs)
  each-over-spells (more_pats p ps) (more_doms d ds) hs h k = (h.0, each-over-spells ps ds hs h.1 k)
  each-over-spells no_pats ds hs h k = k
  each-over-spells (more_pats p ps) no_doms hs h k = k

  pub splits : (m : Bool) (e : Ex) → Spells q m e → Answers m (split e)
  splits m (comp_ex e (over (tuple_pat ps) (tuple_dom ds) hs)) h =
      when (as_many ps ds) m (comp_ex e (each_over ps ds hs)) (h.0, each-over-spells ps ds hs h.1.0 h.1.1)
  splits m _ h = tt

  names-spell : (ys : List Text) → SpellsEach q false (named_exs ys)
  names-spell [] = tt
  names-spell (y ∷ ys) = (tt, names-spell ys)

  pub tuple-name : (ys : List Text) (m : Bool) (e : Ex) → Spells q m e → Answers m (name_over_tuple ys e)
  tuple-name ys m (comp_ex e (over (name_pat x) (tuple_dom ds) hs)) h =
      when (are_names ys ds) m _ (h.0, (((refl, names-spell ys), (h.1.0, tt)), h.1.1))
  tuple-name ys m _ h = tt

  pub record-name : (ys : List Text) (m : Bool) (e : Ex) → Spells q m e → Answers m (name_over_record ys e)
  record-name ys m (comp_ex e (over (name_pat x) (record_dom fs ds) hs)) h =
      when (are_names ys ds && are_in_order fs ds) m _ (h.0, (((refl, names-spell ys), (h.1.0, tt)), h.1.1))
  record-name ys m _ h = tt

  -- ---- components

  nth-spells : (m : Bool) (es : Exs) (k : ℕ) → SpellsEach q false es → Answers m (nth es k)
  nth-spells m no_exs k h = tt
  nth-spells m (more_exs a es) zero h = tt
  nth-spells m (more_exs a es) (suc zero) h = inside q m a h.0
  nth-spells m (more_exs a es) (suc (suc k)) h = nth-spells m es (suc k) h.1

  pub component : (m : Bool) (e : Ex) → Spells q m e → Answers m (component_listed e)
  component m (node_ex b (index (to_component k ∷ [])) (more_exs (node_ex false tuple_literal es) no_exs)) h = nth-spells m es k h.1.0.1
  component m _ h = tt

  field-spells : (m : Bool) (fs : List Text) (es : Exs) (a : Text) → SpellsEach q false es → Answers m (field_term fs es a)
  field-spells m [] es a h = tt
  field-spells m (f ∷ fs) no_exs a h = tt
  field-spells m (f ∷ fs) (more_exs e es) a h = go (same_text f a) (field-spells m fs es a h.1)
    where
      go : (b : Bool) → Answers m (field_term fs es a) → Answers m (if b then Some e else field_term fs es a)
      go true k = inside q m e h.0
      go false k = k

  pub field : (m : Bool) (e : Ex) → Spells q m e → Answers m (field_listed e)
  field m (node_ex b (index (to_field a ∷ [])) (more_exs (node_ex false (record_literal fs) es) no_exs)) h = field-spells m fs es a h.1.0.1
  field m _ h = tt

  -- ---- comparisons

  pub apart : (m : Bool) (e : Ex) → Spells q m e → Answers m (unequal e)
  apart m (ex2 true Op2.Ne a b) h = (refl, ((refl, h.1), tt))
  apart m _ h = tt

  pub turns : (m : Bool) (e : Ex) → Spells q m e → Answers m (included_turned e)
  turns m (ex2 true Op2.SupsetEq a b) h = (refl, (h.1.1.0, (h.1.0, tt)))
  turns m (ex2 true Op2.Supset a b) h = (refl, (h.1.1.0, (h.1.0, tt)))
  turns m _ h = tt

  pub strict : (g : Names Ty) (x : Text) (m : Bool) (e : Ex) → Spells q m e → Answers m (included_strictly g x e)
  strict g x m (ex2 true Op2.Subset a b) h = when (both_sets (type_of a g) (type_of b g) || both_msets (type_of a g) (type_of b g)) m _
      (refl, ((refl, h.1), ((refl, ((refl, (h.1.1.0, (h.1.0, tt))), tt)), tt)))
  strict g x m _ h = tt

  equal-spells : (k : ℕ) (ts us : Tys) (m : Bool) (a b : Ex) → Spells q false a → Spells q false b → Spells q m (equal_from k ts us a b)
  equal-spells k no_tys no_tys m a b h j = tt
  equal-spells k (more_tys t ts) (more_tys u us) m a b h j =
      (refl, ((refl, ((refl, (h, tt)), ((refl, (j, tt)), tt))), (equal-spells (suc k) ts us false a b h j, tt)))
  equal-spells k no_tys (more_tys u us) m a b h j = tt
  equal-spells k (more_tys t ts) no_tys m a b h j = tt

  pub tuples : (g : Names Ty) (x : Text) (m : Bool) (e : Ex) → Spells q m e → Answers m (equal_components g x e)
  tuples g x m (ex2 true Op2.Eq a b) h = go (components (type_of a g)) (components (type_of b g))
    where
      go : (t u : Option Tys) → Answers m (equal_where t u a b)
      go (Some ts) (Some us) = equal-spells 1 ts us m a b h.1.0 h.1.1.0
      go None u = tt
      go (Some ts) None = tt
  tuples g x m _ h = tt

  fields-spell : (fs : List Text) (ts us : Tys) (m : Bool) (a b : Ex) → Spells q false a → Spells q false b →
      Spells q m (equal_each fs ts us a b)
  fields-spell (f ∷ fs) (more_tys t ts) (more_tys u us) m a b h j =
      (refl, ((refl, ((refl, (h, tt)), ((refl, (j, tt)), tt))), (fields-spell fs ts us false a b h j, tt)))
  fields-spell _ _ _ m a b h j = tt

  pub records : (g : Names Ty) (x : Text) (m : Bool) (e : Ex) → Spells q m e → Answers m (equal_fields g x e)
  records g x m (ex2 true Op2.Eq a b) h = go (type_of a g) (type_of b g)
    where
      go : (t u : Option Ty) → Answers m (equal_where_fields t u a b)
      go (Some (compound (a_record fs) ts)) (Some (compound (a_record gs) us)) =
          when (same_texts fs gs && are_fields fs ts us) m (equal_each fs ts us a b) (fields-spell fs ts us m a b h.1.0 h.1.1.0)
      go _ _ = tt
  records g x m _ h = tt
