-- Judged trees of a specification, resolved, have what is given at its place.
use Rattle.std.proofs.Common.{◌≡◌, refl, sym, ap, subst, ◌∙◌, Bool, true, false, ◌&&◌, ◌||◌, not, List, [], ◌∷◌, Option, Some, None, is_some}
use Rattle.std.proofs.lemmas.List.Folds.{list_any-append}
use Rattle.ess_semantics.specs.Lists.{and_then, is_some_and}
use Rattle.ess_semantics.specs.Values.{Text}
use Rattle.ess_semantics.specs.Order.{same_text}
use Rattle.ess_semantics.specs.Names.{Names, is_among}
use Rattle.ess_semantics.specs.Trees.{Step, by_value, to_component, to_field, index, Pat, Ex, Exs, number_ex, truth_ex, name_ex, node_ex, matrix_ex, comp_ex, cell_ex, seen_ex, no_exs, more_exs, Gens, no_gens, over, from, cond}
use Rattle.ess_semantics.specs.Types.{Ty, pattern_names, type_of_dom}
use Rattle.ess_semantics.specs.Typing.{a_number, a_name, static, statics, type_of, types_of, source_ty, type_behind, part_behind, path_ty}
use Rattle.ess_semantics.specs.Lettings.{is_record, field_steps}
use Rattle.ess_semantics.specs.NamesAt.{names_behind}
use Rattle.ess_semantics.specs.Scoped.{is_bound}
use Rattle.ess_semantics.specs.Scopes.{Scope, Asked, nothing_asked, with_bound, every, every_operand, every_under, every_dom, is_fixed, mentions_finds}
use Rattle.ess_semantics.specs.ExpressionJudgements.{ex_fits, orders_fit}
use Rattle.ess_semantics.specs.Judgements.{name_is_known, domain_is_known}
use Rattle.ess_semantics.specs.Resolving.{step_at, steps_from, kept_indices, resolve, resolve_exs, resolve_dom}
use Rattle.ess_semantics.proofs.Tests.{and-left, and-right, and-both, or-left-no, or-right-no}
use Rattle.ess_types_laws.proofs.ResolvedTypes.{gens_resolved, comp-resolved}
use Rattle.ess_types_laws.proofs.ResolvedSteps.{kept-none}
use Rattle.ess_types_laws.proofs.FixedIndices.{bound-holds, Leads, node-leads, value-leads, component-leads, field-leads, value-flag}
use Rattle.conjure_laws.specs.PlainTrees.{Plain, PlainAll, PlainGens}
use Rattle.ess_chain_names_laws.specs.NamesHave.{NamesHave, AllNamesHave, GensNamesHave}
use Rattle.ess_given_conditions_laws.specs.InScope.{bound_as, is_fixed_in, fixed_behind, is_dom_fixed_in, is_given_in, are_given_in, are_gens_given_in}
use Rattle.ess_given_judged_laws.specs.JudgedGiven.{HasGivens, JudgedTreesAreGiven}
use Rattle.ess_given_judged_laws.proofs.BoundFixed.{bound-is, bound-other}
use Rattle.ess_given_judged_laws.proofs.JudgedDomains.{fit, listed, typed, fixed-in, dom-judged}

-- ---- what is asked of operands

tail-asked : (q : Asked) (b : Bool) (bs : List Bool) (e : Ex) (es : Exs) (s : Scope) → every_operand q (b ∷ bs) (more_exs e es) s ≡ true →
    every_operand q bs es s ≡ true
tail-asked q true bs e es s h = h
tail-asked q false bs e es s h = and-right (every q e s) (every_operand q bs es s) h

head-asked : (q : Asked) (b : Bool) (bs : List Bool) (e : Ex) (es : Exs) (s : Scope) → b ≡ false →
    every_operand q (b ∷ bs) (more_exs e es) s ≡ true → every q e s ≡ true
head-asked q true bs e es s f h = cc
head-asked q false bs e es s f h = and-left (every q e s) (every_operand q bs es s) h

some-there : {A B : Type 0} (o : Option A) (f : A → Option B) → is_some (and_then o f) ≡ true → is_some o ≡ true
some-there None f h = h
some-there (Some a) f h = refl

-- ---- names that are bound

unless-not : (x u b : Bool) → x ≡ true → (not x || u) || b ≡ true → b || u ≡ true
unless-not true true true h k = refl
unless-not true true false h k = refl
unless-not true false true h k = refl
unless-not true false false h k = cc
unless-not false u b h k = cc

where-so : (x u : Bool) → (x ≡ true → u ≡ true) → not x || u ≡ true
where-so true u f = f refl
where-so false u f = refl

module _ (w : Text → Bool) where
  pub givens-over : (p : Pat) (ty : Ty) (s : Scope) (u : Text → Bool) → HasGivens w s u → HasGivens w (with_bound false p ty s)
      (bound_as true p u)
  givens-over p ty s u h a i k = bound-is p u a ∙ unless-not (w a) (u a) (is_bound p a) k
      (bound-holds p s.depends_on_finds (λ c. not (w c) || u c) (λ c j. where-so (w c) (u c) (λ l. h c j l)) a i)

  pub givens-from : (b : Bool) (p : Pat) (e : Ex) (ty : Ty) (s : Scope) (u : Text → Bool) → HasGivens w s u →
      (is_fixed e s ≡ true → b ≡ true) →
      HasGivens w (with_bound (mentions_finds e s) p ty s) (bound_as b p u)
  givens-from b p e ty s u h g = go (is_fixed e s) refl
    where
      go : (x : Bool) → is_fixed e s ≡ x → HasGivens w (with_bound (not x) p ty s) (bound_as b p u)
      go true q a i k = subst (λ c. bound_as c p u a ≡ true) (sym (g q)) (givens-over p ty s u h a i k)
      go false q a i k =
          let j : is_among (pattern_names p) a || is_among s.depends_on_finds a ≡ false =
          sym (list_any-append (λ n. same_text n a) (pattern_names p) s.depends_on_finds) ∙ i in
          bound-other b p u a (or-left-no (is_among (pattern_names p) a) (is_among s.depends_on_finds a) j)
          ∙ h a (or-right-no (is_among (pattern_names p) a) (is_among s.depends_on_finds a) j) k

-- Behind generators: the scope there, in which what stands under them is asked, and what is fixed there.
record Behind (w : Text → Bool) (gs : Gens) (s : Scope) (v : Text → Bool) (k l : Scope → Bool) : Type 0 where
  scope : Scope
  types : scope.tys ≡ names_behind gs s.tys
  first : k scope ≡ true
  second : l scope ≡ true
  holds : HasGivens w scope v

module _ (t w : Text → Bool) where
  -- What is said of an operand that is asked.
  abbrev EachGiven : Scope → (Text → Bool) → Exs → Type 0
  EachGiven s u no_exs = Unit {0}
  EachGiven s u (more_exs e es) =
      (every fit e s ≡ true → every listed e s ≡ true → NamesHave w (resolve e s.tys) → Plain (resolve e s.tys) →
      is_given_in t u (resolve e s.tys) ≡ true) × EachGiven s u es

  all-given : (es : Exs) (s : Scope) (u : Text → Bool) → EachGiven s u es → every_operand fit [] es s ≡ true →
      every_operand listed [] es s ≡ true → AllNamesHave w (resolve_exs es s.tys) → PlainAll (resolve_exs es s.tys) →
      are_given_in t u (resolve_exs es s.tys) ≡ true
  all-given no_exs s u g a f n p = refl
  all-given (more_exs e es) s u g a f n p = and-both (is_given_in t u (resolve e s.tys)) (are_given_in t u (resolve_exs es s.tys))
      (g.0 (and-left (every fit e s) (every_operand fit [] es s) a) (and-left (every listed e s) (every_operand listed [] es s) f) n.0 p.0)
      (all-given es s u g.1 (and-right (every fit e s) (every_operand fit [] es s) a)
      (and-right (every listed e s) (every_operand listed [] es s) f) n.1 p.1)

  -- One step of an index: what stands at it is left where it is by a value, and then it is no field.
  step-given : (s : Scope) (u : Text → Bool) (T : Option Ty) (qs rs : List Step) (e : Ex) (es : Exs) →
      is_some (type_behind T (static e) (type_of e s.tys)) ≡ true →
      (is_some_and T is_record ≡ false → NamesHave w (resolve e s.tys) → Plain (resolve e s.tys) → is_given_in t u (resolve e s.tys) ≡
      true) →
      (x : Step) → step_at T (static e) ≡ x →
      (AllNamesHave w (kept_indices qs rs es) → PlainAll (kept_indices qs rs es) → are_given_in t u (kept_indices qs rs es) ≡ true) →
      AllNamesHave w (kept_indices (by_value ∷ qs) (x ∷ rs) (more_exs (resolve e s.tys) es)) →
      PlainAll (kept_indices (by_value ∷ qs) (x ∷ rs) (more_exs (resolve e s.tys) es)) →
      are_given_in t u (kept_indices (by_value ∷ qs) (x ∷ rs) (more_exs (resolve e s.tys) es)) ≡ true
  step-given s u T qs rs e es i k by_value r g n p = and-both (is_given_in t u (resolve e s.tys)) (are_given_in t u (kept_indices qs rs es))
      (k (value-flag T (static e) (type_of e s.tys) r i) n.0 p.0) (g n.1 p.1)
  step-given s u T qs rs e es i k (to_component c) r g n p = g n p
  step-given s u T qs rs e es i k (to_field c) r g n p = g n p

  steps-given : (s : Scope) (u : Text → Bool) (T : Option Ty) (qs : List Step) (es : Exs) → Leads s.tys T qs es → EachGiven s u es →
      every_operand fit (field_steps T qs (statics es) (types_of es s.tys)) es s ≡ true →
      every_operand listed (field_steps T qs (statics es) (types_of es s.tys)) es s ≡ true →
      AllNamesHave w (kept_indices qs (steps_from T qs (statics es) (types_of es s.tys)) (resolve_exs es s.tys)) →
      PlainAll (kept_indices qs (steps_from T qs (statics es) (types_of es s.tys)) (resolve_exs es s.tys)) →
      are_given_in t u (kept_indices qs (steps_from T qs (statics es) (types_of es s.tys)) (resolve_exs es s.tys)) ≡ true
  steps-given s u T [] es i g a f n p = all-given es s u g a f n p
  steps-given s u T (by_value ∷ qs) no_exs i g a f n p = ap (are_given_in t u) (kept-none qs qs)
  steps-given s u T (by_value ∷ qs) (more_exs e es) i g a f n p =
      let v : Option Ty = type_behind T (static e) (type_of e s.tys) in
      let bs : List Bool = field_steps v qs (statics es) (types_of es s.tys) in
      step-given s u T qs (steps_from v qs (statics es) (types_of es s.tys)) e (resolve_exs es s.tys)
      (some-there v (λ y. path_ty y qs (statics es) (types_of es s.tys)) (value-leads s.tys T qs e es i))
      (λ m. g.0 (head-asked fit (is_some_and T is_record) bs e es s m a) (head-asked listed (is_some_and T is_record) bs e es s m f))
      (step_at T (static e)) refl
      (steps-given s u v qs es (value-leads s.tys T qs e es i) g.1 (tail-asked fit (is_some_and T is_record) bs e es s a)
      (tail-asked listed (is_some_and T is_record) bs e es s f)) n p
  steps-given s u T (to_component c ∷ qs) es i g a f n p =
      steps-given s u (part_behind T (a_number c)) qs es (component-leads s.tys T c qs es i) g a f n p
  steps-given s u T (to_field c ∷ qs) es i g a f n p =
      steps-given s u (part_behind T (a_name c)) qs es (field-leads s.tys T c qs es i) g a f n p

  mutual
    judged-given : (e : Ex) (s : Scope) (u : Text → Bool) → HasGivens w s u → every fit e s ≡ true → every listed e s ≡ true →
        NamesHave w (resolve e s.tys) → Plain (resolve e s.tys) → is_given_in t u (resolve e s.tys) ≡ true
    judged-given (number_ex m) s u h a f n p = refl
    judged-given (truth_ex b) s u h a f n p = refl
    judged-given (name_ex x) s u h a f n p = refl
    judged-given (node_ex b (index qs) no_exs) s u h a f n p = refl
    judged-given (node_ex b (index qs) (more_exs e es)) s u h a f n p =
        let x : Ex = node_ex b (index qs) (more_exs e es) in
        let bs : List Bool = field_steps (type_of e s.tys) qs (statics es) (types_of es s.tys) in
        let o = and-right (ex_fits x s) (every_operand fit (false ∷ bs) (more_exs e es) s) a in
        let i = typed x s (and-left (ex_fits x s) (every_operand fit (false ∷ bs) (more_exs e es) s) a) in
        let z = and-right true (every_operand listed (false ∷ bs) (more_exs e es) s) f in
        and-both (is_given_in t u (resolve e s.tys))
        (are_given_in t u (kept_indices qs (steps_from (type_of e s.tys) qs (statics es) (types_of es s.tys)) (resolve_exs es s.tys)))
        (judged-given e s u h (and-left (every fit e s) (every_operand fit bs es s) o)
        (and-left (every listed e s) (every_operand listed bs es s) z)
        n.0 p.0)
        (steps-given s u (type_of e s.tys) qs es (node-leads (type_of e s.tys) qs (static e) (statics es) (types_of es s.tys) i)
        (each-given es s u h) (and-right (every fit e s) (every_operand fit bs es s) o)
        (and-right (every listed e s) (every_operand listed bs es s) z) n.1 p.1)
    judged-given (node_ex b op es) s u h a f n p = all-given es s u (each-given es s u h)
        (and-right (ex_fits (node_ex b op es) s) (every_operand fit [] es s) a) (and-right true (every_operand listed [] es s) f) n p
    judged-given (matrix_ex es d) s u h a f n p =
        let x : Ex = matrix_ex es d in
        and-both (are_given_in t u (resolve_exs es s.tys)) (is_dom_fixed_in t u (resolve_dom d s.tys))
        (all-given es s u (each-given es s u h) (and-right (ex_fits x s) (every_operand fit [] es s)
        (and-left (ex_fits x s && every_operand fit [] es s) (every_dom fit d s) a))
        (and-right true (every_operand listed [] es s) (and-left (true && every_operand listed [] es s) (every_dom listed d s) f)) n.0 p.0)
        (dom-judged t w d s u h (and-right (ex_fits x s && every_operand fit [] es s) (every_dom fit d s) a)
        (and-right (true && every_operand listed [] es s) (every_dom listed d s) f) n.1 p.1)
    judged-given (comp_ex e gs) s u h a f n p =
        let q = sym (comp-resolved e gs s.tys) in
        let nn = subst (NamesHave w) (comp-resolved e gs s.tys) n in
        let pp = subst Plain (comp-resolved e gs s.tys) p in
        let ks = gens_resolved gs s.tys in
        let r = gens-judged gs s u h (every fit e) (every listed e)
        (and-right (ex_fits (comp_ex e gs) s) (every_under fit gs s (every fit e)) a)
        (and-right true (every_under listed gs s (every listed e)) f)
        nn.1 pp.1 in
        let v = fixed_behind t u ks in
        let y = subst (λ g. NamesHave w (resolve e g) → Plain (resolve e g) → is_given_in t v (resolve e g) ≡ true) r.1.types
        (judged-given e r.1.scope v r.1.holds r.1.first r.1.second) in
        subst (λ x. is_given_in t u x ≡ true) q
        (and-both (are_gens_given_in t u ks) (is_given_in t v (resolve e (names_behind gs s.tys))) r.0 (y nn.0 pp.0))
    judged-given (cell_ex b c es) s u h a f n p = absurd p
    judged-given (seen_ex r d ns es) s u h a f n p = absurd p

    each-given : (es : Exs) (s : Scope) (u : Text → Bool) → HasGivens w s u → EachGiven s u es
    each-given no_exs s u h = tt
    each-given (more_exs e es) s u h = (judged-given e s u h, each-given es s u h)

    gens-judged : (gs : Gens) (s : Scope) (u : Text → Bool) → HasGivens w s u → (k l : Scope → Bool) → every_under fit gs s k ≡ true →
        every_under listed gs s l ≡ true → GensNamesHave w (gens_resolved gs s.tys) → PlainGens (gens_resolved gs s.tys) →
        (are_gens_given_in t u (gens_resolved gs s.tys) ≡ true) × Behind w gs s (fixed_behind t u (gens_resolved gs s.tys)) k l
    gens-judged no_gens s u h k l a f n p = (refl, record { scope = s; types = refl; first = a; second = f; holds = h })
    gens-judged (over x d gs) s u h k l a f n p =
        let ty : Ty = type_of_dom d in
        let z : Scope = with_bound false x ty s in
        let y : Text → Bool = bound_as true x u in
        let a0 = and-left (every_dom fit d s && fit.of_generator d s && fit.of_pattern x ty s) (every_under fit gs z k) a in
        let f0 = and-left (every_dom listed d s && listed.of_generator d s && listed.of_pattern x ty s) (every_under listed gs z l) f in
        let r = gens-judged gs z y (givens-over w x ty s u h) k l
        (and-right (every_dom fit d s && fit.of_generator d s && fit.of_pattern x ty s) (every_under fit gs z k) a)
        (and-right (every_dom listed d s && listed.of_generator d s && listed.of_pattern x ty s) (every_under listed gs z l) f) n.2 p.1 in (
          and-both (is_dom_fixed_in t u (resolve_dom d s.tys)) (are_gens_given_in t y (gens_resolved gs z.tys))
              (dom-judged t w d s u h (and-left (every_dom fit d s) (fit.of_generator d s)
              (and-left (every_dom fit d s && fit.of_generator d s)
              (fit.of_pattern x ty s) a0))
              (and-left (every_dom listed d s) (listed.of_generator d s) (and-left (every_dom listed d s && listed.of_generator d s)
              (listed.of_pattern x ty s) f0)) n.1 p.0) r.0,
          record { scope = r.1.scope; types = r.1.types; first = r.1.first; second = r.1.second; holds = r.1.holds },
        )
    gens-judged (from x e gs) s u h k l a f n p =
        let ty : Ty = source_ty e s.tys in
        let z : Scope = with_bound (mentions_finds e s) x ty s in
        let b = is_fixed_in t u (resolve e s.tys) in
        let y : Text → Bool = bound_as b x u in
        let a0 = and-left (every fit e s && fit.of_pattern x ty s) (every_under fit gs z k) a in
        let f0 = and-left (every listed e s && listed.of_pattern x ty s) (every_under listed gs z l) f in
        let a1 = and-left (every fit e s) (fit.of_pattern x ty s) a0 in
        let f1 = and-left (every listed e s) (listed.of_pattern x ty s) f0 in
        let r = gens-judged gs z y (givens-from w b x e ty s u h (λ q. fixed-in t w e s u h a1 q n.1 p.0)) k l
        (and-right (every fit e s && fit.of_pattern x ty s) (every_under fit gs z k) a)
        (and-right (every listed e s && listed.of_pattern x ty s) (every_under listed gs z l) f) n.2 p.1 in (
          and-both (is_given_in t u (resolve e s.tys)) (are_gens_given_in t y (gens_resolved gs z.tys))
              (judged-given e s u h a1 f1 n.1 p.0) r.0,
          record { scope = r.1.scope; types = r.1.types; first = r.1.first; second = r.1.second; holds = r.1.holds },
        )
    gens-judged (cond e gs) s u h k l a f n p =
        let r = gens-judged gs s u h k l (and-right (every fit e s) (every_under fit gs s k) a)
        (and-right (every listed e s) (every_under listed gs s l) f) n.1 p.1 in (
          and-both (is_given_in t u (resolve e s.tys)) (are_gens_given_in t u (gens_resolved gs s.tys))
              (judged-given e s u h (and-left (every fit e s) (every_under fit gs s k) a)
              (and-left (every listed e s) (every_under listed gs s l) f)
              n.0 p.0) r.0,
          record { scope = r.1.scope; types = r.1.types; first = r.1.first; second = r.1.second; holds = r.1.holds },
        )

-- What is proved of judged trees.
pub judged-trees-are-given : JudgedTreesAreGiven
judged-trees-are-given = λ counts e s w t h n p g.
    let known = every (record nothing_asked { of_ex = name_is_known; of_dom = domain_is_known }) e s in
    let b = and-left (known && every fit e s && orders_fit counts e s) (every listed e s) h in
    judged-given t w e s t g (and-right known (every fit e s) (and-left (known && every fit e s) (orders_fit counts e s) b))
    (and-right (known && every fit e s && orders_fit counts e s) (every listed e s) h) n p
