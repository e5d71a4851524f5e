-- What a source offers is in scope where the source is, behind a name that is new: over a domain where the source is a view, else over one
-- of the two that the set is made of.
use Rattle.std.proofs.Common.{◌≡◌, Bool, true, not}
use Rattle.std.specs.Prelude.{IsTrue}
use Rattle.ess_semantics.specs.declared.words.Op2.{Op2}
use Rattle.ess_semantics.specs.Values.{Text}
use Rattle.ess_semantics.specs.Order.{same_text}
use Rattle.ess_semantics.specs.Trees.{name_pat, Ex, name_ex, Gens, ex2}
use Rattle.ess_semantics.specs.Substitution.{NamesAre}
use Rattle.ess_semantics.specs.Scoped.{with_names, Scoped, ScopedGens}
use Rattle.ess_rules_laws.specs.SpliceRules.{append_gens}
use Rattle.ess_rules_laws.specs.Listings.{Alternative}
use Rattle.ess_refine_laws.specs.ScopesStay.{Scope}
use Rattle.ess_seen_names_laws.specs.Shapes.{Drawn, of_the_first, else_of_the_second, of_both, of_the_first_alone, Offered, by_a_view, by_two}
use Rattle.ess_seen_names_laws.specs.Laws.{none, Within}
use Rattle.ess_seen_names_laws.proofs.PutScoped.{left-true, bound, behind}
use Rattle.ess_seen_names_laws.proofs.ViewsScoped.{item-grows, item-scoped, gens-scoped}

-- The names over domains behind what a source offers.
abbrev pub ranging : {x : Text} {t : Ex} {a : Alternative} → Offered x t a → (Text → Bool) → Text → Bool
ranging {x} (by_a_view l) o = with_names o (name_pat x)
ranging (by_two l) o = o

-- Those that were so before are so there.
pub ranging-more : {x : Text} {t : Ex} {a : Alternative} (l : Offered x t a) (o : Text → Bool) (c : Text) → o c ≡ true →
    ranging l o c ≡ true
ranging-more {x} (by_a_view l) o c h = left-true (o c) (same_text x c) h
ranging-more (by_two l) o c h = h

drawn-item : {x : Text} {t : Ex} {a : Alternative} → Drawn x t a → (u o : Text → Bool) → u x ≡ true → Scoped none u o a.item
drawn-item of_the_first u o h = h
drawn-item else_of_the_second u o h = h
drawn-item of_both u o h = h
drawn-item of_the_first_alone u o h = h

drawn-named : {x : Text} {t : Ex} {a : Alternative} → Drawn x t a → (u o : Text → Bool) → Scoped none u o a.item → u x ≡ true
drawn-named of_the_first u o h = h
drawn-named else_of_the_second u o h = h
drawn-named of_both u o h = h
drawn-named of_the_first_alone u o h = h

-- The item stays in scope with more names.
pub offered-grows : {x : Text} {t : Ex} {a : Alternative} → Offered x t a → (u v o p : Text → Bool) →
    ((c : Text) → u c ≡ true → v c ≡ true) → ((c : Text) → o c ≡ true → p c ≡ true) → Scoped none u o a.item → Scoped none v p a.item
offered-grows (by_a_view l) u v o p f g h = item-grows l u v o p f g h
offered-grows {x} (by_two l) u v o p f g h = drawn-item l v p (f x (drawn-named l u o h))

module _ (x : Text) (s : Scope) (n : IsTrue (not (s.all x))) (within : Within s) where
  -- The item is in scope behind x.
  pub offered-item : {t : Ex} {a : Alternative} (l : Offered x t a) → Scoped none s.all s.over_domains t →
      Scoped none (with_names s.all (name_pat x)) (ranging l s.over_domains) a.item
  offered-item (by_a_view l) h = item-scoped x s n within l h
  offered-item (by_two l) h = drawn-item l (with_names s.all (name_pat x)) s.over_domains (bound x s.all)

  -- That x is in a tree which doesn't bind it, behind x.
  asked : (e : Ex) → NamesAre (λ a. true) (λ a. not (same_text x a)) e → Scoped none s.all s.over_domains e →
      Scoped none (with_names s.all (name_pat x)) s.over_domains (ex2 true Op2.Member (name_ex x) e)
  asked e b h = (bound x s.all, (behind x s e b h, tt))

  drawn-gens : {t : Ex} {a : Alternative} → Drawn x t a → NamesAre (λ c. true) (λ c. not (same_text x c)) t →
      Scoped none s.all s.over_domains t → (hs : Gens) (K : (Text → Bool) → (Text → Bool) → Type 0) →
      ScopedGens none (with_names s.all (name_pat x)) s.over_domains hs K → ScopedGens none s.all s.over_domains (append_gens a.gens hs) K
  drawn-gens of_the_first b h hs K k = (n, h.0, k)
  drawn-gens (else_of_the_second {a = c}) b h hs K k = (n, h.1.0, ((asked c b.0 h.0, tt), k))
  drawn-gens (of_both {b = c}) b h hs K k = (n, h.0, (asked c b.1.0 h.1.0, k))
  drawn-gens (of_the_first_alone {b = c}) b h hs K k = (n, h.0, ((asked c b.1.0 h.1.0, tt), k))

  -- So are the generators, and what is in scope behind x is so behind them.
  pub offered-gens : {t : Ex} {a : Alternative} (l : Offered x t a) → NamesAre (λ c. true) (λ c. not (same_text x c)) t →
      Scoped none s.all s.over_domains t → (hs : Gens) (K : (Text → Bool) → (Text → Bool) → Type 0) →
      ScopedGens none (with_names s.all (name_pat x)) (ranging l s.over_domains) hs K →
      ScopedGens none s.all s.over_domains (append_gens a.gens hs) K
  offered-gens (by_a_view l) b h hs K k = gens-scoped x s n within l h hs K k
  offered-gens (by_two l) b h hs K k = drawn-gens l b h hs K k
