-- The names of what views of sets offer are apart from those of what stands behind the view.
use Rattle.std.proofs.Common.{◌≡◌, refl, sym, ap, ◌∙◌, subst, Bool, true, false, ◌&&◌, ◌||◌, not, List, Option, Some, None}
use Rattle.std.specs.Prelude.{IsTrue}
use Rattle.ess_semantics.specs.Values.{Text}
use Rattle.ess_semantics.specs.Order.{same_text}
use Rattle.ess_semantics.specs.Trees.{Mark, repr, name_pat, Ex, Exs, name_ex, comp_ex, seen_ex, no_exs, more_exs, Gens, from, Dom, Doms, bool_dom, int_dom, name_dom, tuple_dom, record_dom, matrix_dom, set_dom, mset_dom, function_dom, relation_dom, partition_dom, no_doms, more_doms}
use Rattle.ess_semantics.specs.Substitution.{NamesAre, NamesAreExs, NamesAreGens, NamesAreDom, NamesAreDoms}
use Rattle.ess_semantics.proofs.Texts.{same_text-itself, same_text-equal}
use Rattle.ess_repr_declare_laws.specs.SizeTerms.{slots_ex, dummy_ex, unused_name}
use Rattle.ess_rules_laws.specs.Listings.{Alternative}
use Rattle.ess_rules_laws.specs.SetListings.{put_last}
use Rattle.ess_rules_laws.specs.SlotListings.{slots_dom}
use Rattle.ess_rules_laws.specs.ListedSources.{laid_out}
use Rattle.ess_rules_laws.specs.SpliceRules.{NamesApart}
use Rattle.ess_rules_laws.proofs.UsedNames.{names-map, names-map-exs, names-map-gens, names-map-dom}
use Rattle.ess_refine_laws.specs.AllRules.{OfSome}
use Rattle.ess_kind_rules_laws.specs.ViewListings.{listing_of}
use Rattle.ess_kind_sizes_laws.specs.ViewsBehind.{taken, put, ListingsOfSetsAreApart}
use Rattle.ess_kind_sizes_laws.proofs.SizesHave.{SizeParts, AllHave, NumbersHave, AllNumbersHave, set-slots-have, dummy-has}
use Rattle.ess_kind_sizes_laws.proofs.SetListings.{OfEach, by-kind, slots, of_occurrences, of_all, of_marked, of_flagged, of_dummies}

-- ---- names of sizes

module _ (u b : Text → Bool) where
  -- Names of numbers.
  abbrev pub Named : Ex → Type 0
  Named e = NamesAre u b e

  -- Names of domains.
  abbrev pub NamedDom : Dom → Type 0
  NamedDom d = NamesAreDom u b d

  each-named : (es : Exs) → NamesAreExs u b es → AllHave Named NamedDom es
  each-named no_exs h = tt
  each-named (more_exs e es) h = (h.0, each-named es h.1)

  mutual
    numbers-named : (d : Dom) → NamesAreDom u b d → NumbersHave Named NamedDom d
    numbers-named bool_dom h = tt
    numbers-named (int_dom rs es) h = (each-named es h, h)
    numbers-named (name_dom a) h = tt
    numbers-named (tuple_dom ds) h = all-named ds h
    numbers-named (record_dom fs ds) h = all-named ds h
    numbers-named (matrix_dom is d) h = (all-named is h.0, numbers-named d h.1)
    numbers-named (set_dom ms es d) h = (each-named es h.0, numbers-named d h.1)
    numbers-named (mset_dom ms es d) h = (each-named es h.0, numbers-named d h.1)
    numbers-named (function_dom ms es d c) h = (each-named es h.0, numbers-named d h.1, numbers-named c h.2)
    numbers-named (relation_dom ms es ds) h = (each-named es h.0, all-named ds h.1)
    numbers-named (partition_dom ms es d) h = (each-named es h.0, numbers-named d h.1)

    all-named : (ds : Doms) → NamesAreDoms u b ds → AllNumbersHave Named NamedDom ds
    all-named no_doms h = tt
    all-named (more_doms d ds) h = (numbers-named d h.0, all-named ds h.1)

  module _ (sizes : IsTrue (b unused_name)) where
    sizes-named : SizeParts Named NamedDom
    sizes-named = record {
      zero = tt;
      one = tt;
      two = tt;
      sums = λ a c g h. (g, (h, tt));
      differences = λ a c g h. (g, (h, tt));
      products = λ a c g h. (g, (h, tt));
      powers = λ a c g h. (g, (h, tt));
      most = λ a h. ((tt, (h, tt)), tt);
      listed = λ d h. ((tt, (sizes, h, tt)), tt);
    }

    -- The slots of a set have such names where its domain has them.
    pub slots-named : (ms : List Mark) (es : Exs) (d : Dom) → NamesAreDom u b (set_dom ms es d) → NamesAre u b (slots_ex (set_dom ms es d))
    slots-named ms es d h = set-slots-have Named NamedDom sizes-named ms es d (each-named es h.0) (numbers-named d h.1)

    -- And so has a dummy.
    pub dummy-named : (d : Dom) → NamesAreDom u b d → NamesAre u b (dummy_ex d)
    dummy-named d h = dummy-has Named NamedDom sizes-named d (numbers-named d h)

  -- One more operand.
  pub last-named : (js : Exs) (a : Ex) → NamesAreExs u b js → NamesAre u b a → NamesAreExs u b (put_last js a)
  last-named no_exs a h k = (k, tt)
  last-named (more_exs e js) a h k = (h.0, last-named js a h.1 k)

-- ---- tests

or-left : (x y : Bool) → IsTrue x → IsTrue (x || y)
or-left true y h = refl
or-left false y h = cc

or-right : (x y : Bool) → IsTrue y → IsTrue (x || y)
or-right true y h = refl
or-right false y h = h

always : (a : Text) → IsTrue true
always a = refl

module _ (v s b : Text → Bool) (x y : Text) where
  -- The new name, y, and what is in scope may be put.
  pub put-scope : (a : Text) → IsTrue (s a) → IsTrue (put s x y a)
  put-scope a h = or-left (s a || same_text y a) (same_text x a) (or-left (s a) (same_text y a) h)

  -- The new name may be put.
  pub put-new : IsTrue (put s x y x)
  put-new = or-right (s x || same_text y x) (same_text x x) (same_text-itself x)

  -- So may y.
  pub put-name : IsTrue (put s x y y)
  put-name = or-left (s y || same_text y y) (same_text x y) (or-right (s y) (same_text y y) (same_text-itself y))

  -- The new name is taken.
  pub taken-new : IsTrue (taken b x x)
  taken-new = or-right (b x) (same_text x x) (same_text-itself x)

  -- So is what the view's domain binds.
  pub taken-within : (a : Text) → IsTrue (b a) → IsTrue (taken b x a)
  taken-within a h = or-left (b a) (same_text x a) h

  module _ (new : v x ≡ false) (within : (a : Text) → b a ≡ true → v a ≡ false) where
    -- What is used behind isn't taken.
    pub used-apart : (a : Text) → IsTrue (v a) → IsTrue (not (taken b x a))
    used-apart a h = go (b a) (same_text x a) refl refl
      where
        go : (p q : Bool) → b a ≡ p → same_text x a ≡ q → IsTrue (not (p || q))
        go true q i j = let k : v a ≡ false = within a i in let l : true ≡ false = sym h ∙ k in cc
        go false true i j = let k : v x ≡ v a = ap v (same_text-equal x a j) in let l : true ≡ false = sym h ∙ sym k ∙ new in cc
        go false false i j = refl

    -- And what is bound behind isn't put.
    pub bound-apart : (a : Text) → IsTrue (v a && not (s a || same_text y a)) → IsTrue (not (put s x y a))
    bound-apart a h = go (v a) (s a || same_text y a) (same_text x a) refl refl h
      where
        go : (p q r : Bool) → v a ≡ p → same_text x a ≡ r → IsTrue (p && not q) → IsTrue (not (q || r))
        go false q r i j h = cc
        go true true r i j h = cc
        go true false false i j h = refl
        go true false true i j h = let k : v x ≡ v a = ap v (same_text-equal x a j) in let l : true ≡ false = sym i ∙ sym k ∙ new in cc

-- ---- listings

module _ (v s b : Text → Bool) (x y : Text) (ms : List Mark) (es : Exs) (d : Dom) (js : Exs) (e : Ex) (hs : Gens)
    (source : NamesAreDom s b (set_dom ms es d) × NamesAreExs s b js) (new : v x ≡ false)
    (within : (a : Text) → b a ≡ true → v a ≡ false)
    (sizes : b unused_name ≡ true) (gens : NamesAreGens v (λ a. v a && not (s a || same_text y a)) hs)
    (body : NamesAre v (λ a. v a && not (s a || same_text y a)) e) where
  -- A listing whose generators bind what is taken, and whose item uses what may be put.
  abbrev Fits : Alternative → Type 0
  Fits a = NamesApart (taken b x) (put s x y) (comp_ex e (from (name_pat y) (laid_out a) hs))

  apart : (a : Alternative) → NamesAre (put s x y) (λ c. true) a.item → NamesAreGens (λ c. true) (taken b x) a.gens → Fits a
  apart a i g = (
    put-name v s b x y,
    i,
    g,
    names-map-gens v (λ c. not (taken b x c)) (λ c. v c && not (s c || same_text y c)) (λ c. not (put s x y c))
        (used-apart v s b x y new within) (bound-apart v s b x y new within) hs gens,
    names-map v (λ c. not (taken b x c)) (λ c. v c && not (s c || same_text y c)) (λ c. not (put s x y c))
        (used-apart v s b x y new within) (bound-apart v s b x y new within) e body,
  )

  inner-put : NamesAreDom (put s x y) (λ c. true) d
  inner-put = names-map-dom s (put s x y) b (λ c. true) (put-scope v s b x y) (λ a h. refl) d source.0.1

  inner-taken : NamesAreDom (λ c. true) (taken b x) d
  inner-taken = names-map-dom s (λ c. true) b (taken b x) (λ a h. refl) (taken-within v s b x y) d source.0.1

  set-taken : NamesAreDom (λ c. true) (taken b x) (set_dom ms es d)
  set-taken = names-map-dom s (λ c. true) b (taken b x) (λ a h. refl) (taken-within v s b x y) (set_dom ms es d) source.0

  slots-taken : NamesAreDom (λ c. true) (taken b x) (slots_dom (slots x ms es d js))
  slots-taken = (tt, (slots-named (λ c. true) (taken b x) (taken-within v s b x y unused_name sizes) ms es d set-taken, tt))

  dummy-taken : NamesAre (λ c. true) (taken b x) (dummy_ex d)
  dummy-taken = dummy-named (λ c. true) (taken b x) (taken-within v s b x y unused_name sizes) d inner-taken

  index-put : NamesAreExs (put s x y) (λ c. true) (put_last js (name_ex x))
  index-put = last-named (put s x y) (λ c. true) js (name_ex x)
      (names-map-exs s (put s x y) b (λ c. true) (put-scope v s b x y) (λ a h. refl) js source.1) (put-new v s b x y)

  keys-taken : NamesAreExs (λ c. true) (taken b x) js
  keys-taken = names-map-exs s (λ c. true) b (taken b x) (λ a h. refl) (taken-within v s b x y) js source.1

  index-taken : NamesAreExs (λ c. true) (taken b x) (put_last js (name_ex x))
  index-taken = last-named (λ c. true) (taken b x) js (name_ex x) keys-taken refl

  sets-apart : OfEach x ms es d js (λ k rs ns. Fits)
  sets-apart = record {
    occurrences = λ n. apart (of_occurrences x ms es d js n) (put-new v s b x y) (taken-new v s b x y, inner-taken, (index-taken, tt));
    all = λ r ns. apart (of_all x ms es d js r ns) (inner-put, index-put) (taken-new v s b x y, slots-taken, tt);
    marked = λ r m ns. apart (of_marked x ms es d js r m ns) (inner-put, index-put)
        (taken-new v s b x y, slots-taken, ((refl, (keys-taken, tt)), tt));
    flagged = λ r m ns. apart (of_flagged x ms es d js r m ns) (inner-put, index-put) (taken-new v s b x y, slots-taken, (index-taken, tt));
    dummies = λ t. apart (of_dummies x ms es d js t) (inner-put, index-put)
        (taken-new v s b x y, slots-taken, ((index-taken, (dummy-taken, tt)), tt));
  }

-- What is offered.
pub some-of : {A : Type 0} (o : Option A) (P : A → Type 0) (a : A) → OfSome o P → o ≡ Some a → P a
some-of (Some c) P a h q = subst (λ r. OfSome r P) q h
some-of None P a h q = cc

-- Bound names are apart.
pub listings-of-sets-are-apart : ListingsOfSetsAreApart
listings-of-sets-are-apart v s b x y z zs (seen_ex (repr k rs) (set_dom ms es d) ns js) e hs a q i h =
    some-of (listing_of k x z zs (seen_ex (repr k rs) (set_dom ms es d) ns js))
    (λ c. NamesApart (taken b x) (put s x y) (comp_ex e (from (name_pat y) (laid_out c) hs))) a
    (by-kind x ms es d js (λ k rs ns c. NamesApart (taken b x) (put s x y) (comp_ex e (from (name_pat y) (laid_out c) hs)))
    (sets-apart v s b x y ms es d js e hs h.source h.new h.within h.sizes h.gens h.body) z zs k rs ns) q
listings-of-sets-are-apart v s b x y z zs _ e hs a q i h = cc
