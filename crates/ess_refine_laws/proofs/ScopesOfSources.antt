-- What rules make of generators over sources stays in scope.
use Rattle.std.specs.Prelude.{IsTrue}
use Rattle.std.proofs.Common.{◌≡◌, refl, ap, ◌∙◌, Bool, true, false, ◌||◌, if◌then◌else◌, List, [], ◌∷◌, Option, Some, None, not, map}
use Rattle.ess_semantics.specs.declared.words.Op2.{Op2}
use Rattle.ess_semantics.specs.declared.words.Fun.{Fun}
use Rattle.ess_semantics.specs.Lists.{and_then, or_else}
use Rattle.ess_semantics.specs.Values.{Text, a_function}
use Rattle.ess_semantics.specs.Order.{same_text}
use Rattle.ess_semantics.specs.Names.{Names}
use Rattle.ess_semantics.specs.Trees.{word, mset_literal, matrix_literal, name_pat, Ex, Exs, node_ex, comp_ex, ex2, fun1, no_exs, more_exs, Gens, no_gens, over, from, cond, set_literal, relation_literal, ex1, function_literal, partition_literal, matrix_ex}
use Rattle.ess_semantics.specs.Types.{Ty, compound2}
use Rattle.ess_semantics.specs.Typing.{type_of}
use Rattle.ess_semantics.specs.ExpressionJudgements.{forgets_order}
use Rattle.ess_rules_laws.specs.SourceRules.{is_marked, each_fold}
use Rattle.ess_rules_laws.specs.Listings.{Alternative, each_item, none_of, each_first, is_strict, listing}
use Rattle.ess_rules_laws.specs.ListedSources.{put_listed, source_alone, each_put, source_parts}
use Rattle.ess_rules_laws.specs.InclusionRules.{both_sets}
use Rattle.ess_refine_laws.specs.AllRules.{only_one, Supply, offered}
use Rattle.ess_semantics.specs.declared.words.Op1.{Op1}
use Rattle.ess_rules_laws.specs.ContainerListings.{of_function, made_listing}
use Rattle.ess_rules_laws.specs.ShortSizeRules.{is_partition}
use Rattle.ess_refine_laws.specs.ExtremeAlternatives.{put_alternative, each_extreme, each_size, past_all, extreme_alternatives}
use Rattle.ess_semantics.specs.Scoped.{with_names, Scoped, ScopedExs, ScopedGens}
use Rattle.ess_semantics.specs.Substitution.{NamesAre}
use Rattle.ess_rules_laws.specs.Listings.{each_item, none_of, each_first, is_strict, listing}
use Rattle.ess_rules_laws.specs.ListedSources.{laid_out}
use Rattle.ess_rules_laws.specs.ContainerListings.{made_listing}
use Rattle.ess_rules_laws.proofs.Agreement.{same_text-equal, same_text-itself}
use Rattle.ess_rules_laws.proofs.NoneOf.{none_of-more}
use Rattle.ess_refine_laws.specs.ExtremeAlternatives.{has_items}
use Rattle.ess_refine_laws.specs.AllRules.{OfSome}
use Rattle.ess_refine_laws.specs.ScopesStay.{Scope}
use Rattle.ess_refine_laws.specs.ItemsOnce.{is_atom_dom, items_once}
use Rattle.ess_refine_laws.specs.ScopesOfRules.{BindsNone, NewSupply, EachBindsNone, TermsApart, SetApart}
use Rattle.ess_refine_laws.proofs.WiderScopes.{bound, behind}
use Rattle.ess_refine_laws.proofs.PutTerms.{put-listed-scoped}
use Rattle.ess_refine_laws.proofs.ScopesOfItems.{over-scoped}
use Rattle.ess_refine_laws.proofs.ScopesOfParts.{gens-map, InScope, when}

module _ (z : Text → Bool) (s : Scope) where
  abbrev S : Ex → Type 0
  S e = Scoped z s.all s.over_domains e

  abbrev A : Option Ex → Type 0
  A r = InScope z s.all s.over_domains r

  -- Each alternative is in scope.
  abbrev pub AllScoped : List Alternative → Type 0
  AllScoped [] = Unit {0}
  AllScoped (a ∷ l) = S (laid_out a) × AllScoped l

  abbrev pub SomeScoped : Option (List Alternative) → Type 0
  SomeScoped None = Unit {0}
  SomeScoped (Some l) = AllScoped l

  when-list : (c : Bool) (l : List Alternative) → AllScoped l → SomeScoped (if c then Some l else None)
  when-list true l h = h
  when-list false l h = tt

  -- ---- listings

  pub items-scoped : (es : Exs) → ScopedExs z s.all s.over_domains es → AllScoped (each_item es)
  items-scoped no_exs h = tt
  items-scoped (more_exs a es) h = (h.0, items-scoped es h.1)

  abbrev ScopedList : List Ex → Type 0
  ScopedList [] = Unit {0}
  ScopedList (b ∷ bs) = S b × ScopedList bs

  none-scoped : (bs : List Ex) (a : Ex) → ScopedList bs → S a → S (comp_ex a (none_of bs a))
  none-scoped [] a h k = k
  none-scoped (b ∷ bs) a h k =
      none_of-more (λ gs. S (comp_ex a gs)) b a bs (none-scoped bs a h.1 k) (λ r. (((h.0, (k, tt)), tt), r))

  firsts-scoped : (bs : List Ex) (es : Exs) → ScopedList bs → ScopedExs z s.all s.over_domains es → AllScoped (each_first bs es)
  firsts-scoped bs no_exs h k = tt
  firsts-scoped bs (more_exs a es) h k = (none-scoped bs a h k.0, firsts-scoped (a ∷ bs) es (k.0, h) k.1)

  module _ (x : Text) (n : IsTrue (not (s.all x))) where
    later : (e : Ex) → BindsNone (same_text x) e → S e → Scoped z (with_names s.all (name_pat x)) s.over_domains e
    later e b h = behind z (name_pat x) s.all s.over_domains e b h

    listing-scoped : (g : Names Ty) (t : Ex) → BindsNone (same_text x) t → S t → SomeScoped (listing g x t)
    listing-scoped g (comp_ex e gs) k h = (h, tt)
    listing-scoped g (node_ex false matrix_literal es) k h = items-scoped es h
    listing-scoped g (node_ex false mset_literal es) k h = items-scoped es h
    listing-scoped g (node_ex false set_literal es) k h = firsts-scoped [] es tt h
    listing-scoped g (node_ex false relation_literal es) k h = firsts-scoped [] es tt h
    listing-scoped g (ex2 false Op2.Union a b) k h = when-list (both_sets (type_of a g) (type_of b g)) _
        ((n, h.0, bound x s.all), ((n, h.1.0, (((bound x s.all, (later a k.0 h.0, tt)), tt), bound x s.all)), tt))
    listing-scoped g (ex2 false Op2.Intersect a b) k h = when-list (both_sets (type_of a g) (type_of b g)) _
        ((n, h.0, ((bound x s.all, (later b k.1.0 h.1.0, tt)), bound x s.all)), tt)
    listing-scoped g (ex2 false Op2.Minus a b) k h = when-list (both_sets (type_of a g) (type_of b g)) _
        ((n, h.0, (((bound x s.all, (later b k.1.0 h.1.0, tt)), tt), bound x s.all)), tt)
    listing-scoped g (fun1 false Fun.ToMSet m) k h = ((n, h.0, bound x s.all), tt)
    listing-scoped g (fun1 false Fun.ToSet m) k h = when-list (is_strict (type_of m g)) _ ((n, h.0, bound x s.all), tt)
    listing-scoped g (fun1 false Fun.Parts m) k h = when-list (is_strict (type_of m g)) _ ((n, h.0, bound x s.all), tt)
    listing-scoped g _ k h = tt

    function-scoped : (o : Option Ty) (F : Ty → Ty → List Alternative) → ((t u : Ty) → AllScoped (F t u)) → SomeScoped (of_function o F)
    function-scoped (Some (compound2 a_function t u)) F h = h t u
    function-scoped _ F h = tt

    made-scoped : (g : Names Ty) (y : Text) → IsTrue (not (s.all y)) → same_text x y ≡ false → (t : Ex) → BindsNone (same_text x) t → S t →
        SomeScoped (made_listing g x y t)
    made-scoped g y m d (fun1 false Fun.ToRelation f) k h = function-scoped (type_of f g) _ (λ t u. ((n, h.0, bound x s.all), tt))
    made-scoped g y m d (fun1 false Fun.Defined f) k h = function-scoped (type_of f g) _ (λ t u. ((n, h.0, (bound x s.all, tt)), tt))
    made-scoped g y m d (node_ex false (word Fun.PreImage) (more_exs f (more_exs b no_exs))) k h = function-scoped (type_of f g) _
        (λ t u. ((n, h.0, (((bound x s.all, tt), (later b k.1.0 h.1.0, tt)), (bound x s.all, tt))), tt))
    made-scoped g y m d (fun1 false Fun.Participants p) k h = when-list (is_partition (type_of p g)) _
        ((m, h.0, (new-x, bound y s.all, bound x (with_names s.all (name_pat y)))), tt)
      where
        swap : (b c : Bool) → same_text x y ≡ b → same_text y x ≡ c → b ≡ false → c ≡ false
        swap b true q r e = let i : y ≡ x = same_text-equal y x r in
            let j : same_text x y ≡ true = ap (λ w. same_text x w) i ∙ same_text-itself x in cc
        swap b false q r e = refl

        new-x : IsTrue (not (with_names s.all (name_pat y) x))
        new-x = ap (λ b. not (s.all x || b)) (swap (same_text x y) (same_text y x) refl refl d) ∙ both (s.all x) n
          where
            both : (b : Bool) → IsTrue (not b) → not (b || false) ≡ true
            both true h = h
            both false h = refl
    made-scoped g y m d (node_ex false function_literal es) k h = firsts-scoped [] es tt h
    made-scoped g y m d (node_ex false partition_literal es) k h = items-scoped es h
    made-scoped g y m d (fun1 false Fun.ToSet (node_ex false matrix_literal es)) k h = firsts-scoped [] es tt h.0
    made-scoped g y m d (fun1 false Fun.ToSet (node_ex false mset_literal es)) k h = firsts-scoped [] es tt h.0
    made-scoped g y m d (matrix_ex es c) k h = items-scoped es h.0
    made-scoped g y m d _ k h = tt

  -- Sets of items, each item once.
  once-scoped : (y q w : Text) → IsTrue (not (s.all y)) → IsTrue (not (s.all q)) → IsTrue (not (s.all w)) → same_text y q ≡ false →
      same_text y w ≡ false → same_text q w ≡ false → (k : Ex) → BindsNone (same_text y) k → BindsNone (same_text w) k → SetApart z k →
      S k → SomeScoped (items_once y q w k)
  once-scoped y q w ny nq nw yq yw qw (fun1 false Fun.ToSet (comp_ex e no_gens)) by bw zx h = (h.0, tt)
  once-scoped y q w ny nq nw yq yw qw (fun1 false Fun.ToSet (comp_ex e (cond c gs))) by bw zx h =
      ((h.0.0, (ny, (h.0.1, tt), bound y s.all)), tt)
  once-scoped y q w ny nq nw yq yw qw (fun1 false Fun.ToSet (comp_ex e (over (name_pat x) d gs))) by bw zx h =
      when-list (is_atom_dom d) _
      (over-scoped z s.all s.over_domains y q w x ny nq nw yq yw qw zx d e gs by.0 bw.0 h.0, tt)
  once-scoped y q w ny nq nw yq yw qw _ by bw zx h = tt

  -- What a term offers, where the names that it takes are new.
  pub offered-scoped : (t : Supply) (g : Names Ty) (k e : Ex) → NewSupply t s e → BindsNone (same_text t.one) k →
      BindsNone (same_text t.third) k → SetApart z k → S k → SomeScoped (offered t g k)
  offered-scoped t g k e n b c a h = either (listing g t.one k) (or_else (made_listing g t.one t.other k) (items_once t.one t.other t.third k))
      (listing-scoped t.one n.0.0 g k b h)
      (either (made_listing g t.one t.other k) (items_once t.one t.other t.third k) (made-scoped t.one n.0.0 g t.other n.1.0 n.2 k b h)
      (once-scoped t.one t.other t.third n.0.0 n.1.0 n.4.0 n.2 n.5 n.6 k b c a h))
    where
      either : (o p : Option (List Alternative)) → SomeScoped o → SomeScoped p → SomeScoped (or_else o p)
      either None p h k = k
      either (Some l) p h k = h

  -- ---- alternatives in the place of a name

  -- What stands behind the name.
  abbrev Tail : Text → Ex → Gens → Type 0
  Tail y e hs = ScopedGens z (with_names s.all (name_pat y)) s.over_domains hs (λ v i. Scoped z v i e)

  module _ (y : Text) (e : Ex) (hs : Gens) (zy : z y ≡ false) (oy : s.over_domains y ≡ false) (u : Text → Bool)
      (b : NamesAre (λ a. true) u (comp_ex e hs)) (tail : Tail y e hs) where
    -- With one alternative.
    pub one-put : (a : Alternative) → BindsNone u (laid_out a) → S (laid_out a) → S (put_listed y e hs a)
    one-put a k h = put-listed-scoped z u y a.item zy e hs s.all s.over_domains oy k.0 b tail a.gens k.1 h

    each-put-scoped : (m : Bool) (f : Fun) (l : List Alternative) → EachBindsNone u l → AllScoped l →
        ScopedExs z s.all s.over_domains (each_put m f y e hs l)
    each-put-scoped m f [] k h = tt
    each-put-scoped m f (a ∷ l) k h = ((one-put a k.0 h.0, tt), each-put-scoped m f l k.1 h.1)

    pub parts-scoped : (m : Bool) (f : Fun) (t : Ex) (l : List Alternative) → EachBindsNone u l → AllScoped l →
        A (source_parts l (fun1 m f (comp_ex e (from (name_pat y) t hs))))
    parts-scoped m f t l k h = when z s.all s.over_domains (is_marked m f) _ (each-put-scoped m f l k h, tt)

    pub alone-scoped : (m : Bool) (f : Fun) (t : Ex) (a : Alternative) → BindsNone u (laid_out a) → S (laid_out a) →
        A (source_alone a (fun1 m f (comp_ex e (from (name_pat y) t hs))))
    alone-scoped m f t a k h = when z s.all s.over_domains (forgets_order (word f)) _ (one-put a k h, tt)

    put-all : (l : List Alternative) → EachBindsNone u l → AllScoped l → AllScoped (map (put_alternative y e hs) l)
    put-all [] k h = tt
    put-all (a ∷ l) k h = (one-put a k.0 h.0, put-all l k.1 h.1)

    -- ---- literals

    pub each-item-scoped : (m : Bool) (f : Fun) (es : Exs) → EachBindsNone u (each_item es) → ScopedExs z s.all s.over_domains es →
        ScopedExs z s.all s.over_domains (each_fold m f y e hs es)
    each-item-scoped m f no_exs k h = tt
    each-item-scoped m f (more_exs a es) k h =
        ((one-put (record { gens = no_gens; item = a }) k.0 h.0, tt), each-item-scoped m f es k.1 h.1)

  -- ---- the least of several

  sizes-scoped : (l : List Alternative) → AllScoped l → ScopedExs z s.all s.over_domains (each_size l)
  sizes-scoped [] h = tt
  sizes-scoped (a ∷ l) h = (
    (
      gens-map z a.gens (λ v i. Scoped z v i a.item) (λ v i. Scoped z v i (ex1 false Op1.Bar a.item)) (λ v i k.
          (k, tt)) s.all s.over_domains h.0,
      tt,
    ),
    sizes-scoped l h.1,
  )

  past-scoped : (f : Fun) (l : List Alternative) → AllScoped l → S (past_all f l)
  past-scoped Fun.Max l h = ((sizes-scoped l h, tt), tt)
  past-scoped _ l h = (sizes-scoped l h, tt)

  has-scoped : (a : Alternative) → S (laid_out a) → S (has_items a)
  has-scoped a h = (gens-map z a.gens (λ v i. Scoped z v i a.item) (λ v i. Unit {0}) (λ v i k. tt) s.all s.over_domains h, tt)

  each-extreme-scoped : (f : Fun) (n : Ex) (l : List Alternative) → S n → AllScoped l →
      ScopedExs z s.all s.over_domains (each_extreme f n l)
  each-extreme-scoped f n [] h k = tt
  each-extreme-scoped f n (a ∷ l) h k = (
    (((has-scoped a k.0, (k.0, tt)), tt), (((((has-scoped a k.0, tt), tt), (h, tt))), tt)),
    each-extreme-scoped f n l h k.1,
  )

  extremes-scoped : (f : Fun) (l : List Alternative) (t : Ex) → AllScoped l → A (extreme_alternatives l (fun1 false f t))
  extremes-scoped Fun.Min l t h = (each-extreme-scoped Fun.Min (past_all Fun.Min l) l (past-scoped Fun.Min l h) h, tt)
  extremes-scoped Fun.Max l t h = (each-extreme-scoped Fun.Max (past_all Fun.Max l) l (past-scoped Fun.Max l h) h, tt)
  extremes-scoped _ l t h = tt

  -- ---- the rules

  module _ (y : Text) (e t : Ex) (hs : Gens) (tail : Tail y e hs) where
    pub in-parts : (m : Bool) (f : Fun) (o : Option (List Alternative)) → OfSome o (TermsApart z s y e hs) → SomeScoped o →
        A (and_then o (λ l. source_parts l (fun1 m f (comp_ex e (from (name_pat y) t hs)))))
    in-parts m f None k h = tt
    in-parts m f (Some l) k h = parts-scoped y e hs k.0 k.1 k.2 k.3 tail m f t l k.4 h

    pub in-one-part : (m : Bool) (f : Fun) (o : Option (List Alternative)) → OfSome o (TermsApart z s y e hs) → SomeScoped o →
        A (and_then (only_one o) (λ a. source_alone a (fun1 m f (comp_ex e (from (name_pat y) t hs)))))
    in-one-part m f None k h = tt
    in-one-part m f (Some []) k h = tt
    in-one-part m f (Some (a ∷ [])) k h = alone-scoped y e hs k.0 k.1 k.2 k.3 tail m f t a k.4.0 h.0
    in-one-part m f (Some (a ∷ c ∷ l)) k h = tt

    pub in-extremes : (f : Fun) (o : Option (List Alternative)) → OfSome o (TermsApart z s y e hs) → SomeScoped o →
        A (and_then o (λ l. extreme_alternatives (map (put_alternative y e hs) l) (fun1 false f (comp_ex e (from (name_pat y) t hs)))))
    in-extremes f None k h = tt
    in-extremes f (Some l) k h = extremes-scoped f (map (put_alternative y e hs) l) (comp_ex e (from (name_pat y) t hs))
        (put-all y e hs k.0 k.1 k.2 k.3 tail l k.4 h)
