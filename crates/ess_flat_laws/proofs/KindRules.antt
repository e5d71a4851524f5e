-- No rule that reads the kind of a view fires at a flat tree over cells.
use Rattle.std.proofs.Common.{◌≡◌, refl, Bool, true, false, Option, None}
use Rattle.ess_semantics.specs.declared.words.Op1.{Op1}
use Rattle.ess_semantics.specs.declared.words.Op2.{Op2}
use Rattle.ess_semantics.specs.declared.words.Fun.{Fun}
use Rattle.ess_semantics.specs.Values.{Text}
use Rattle.ess_semantics.specs.Names.{Names}
use Rattle.ess_semantics.specs.Trees.{unary, binary, word, Ex, ex1, fun1}
use Rattle.ess_semantics.specs.Types.{Ty}
use Rattle.ess_refine_laws.specs.AllRules.{Supply}
use Rattle.ess_kind_rules_laws.specs.KindRules.{KindRule, kind_rewrite, cell_of_an_atom, of_what_is_picked}
use Rattle.ess_flat_laws.specs.Flat.{denied, negative, absolute, both, either, implied, agreeing, equal, unequal, below, at_most, above, at_least, sum, difference, product, Flat, number, truth, named, cell, one, two, chosen, none_marked}
use Rattle.ess_flat_laws.proofs.Picks.{one-kind, two-kind}

module _ (cells : Text → Option Bool) (s : Supply) (g : Names Ty) where
  abbrev F : Ex → Bool → Type 0
  F = Flat none_marked cells

  -- At an absolute value.
  at-absolute : {x : Ex} {k : Bool} → F x k → (r : KindRule) → kind_rewrite s g r (ex1 false Op1.Bar x) ≡ None
  at-absolute {x} {k} number of_what_is_picked = one-kind s g none_marked cells false (unary Op1.Bar) x k number
  at-absolute {x} {k} truth of_what_is_picked = one-kind s g none_marked cells false (unary Op1.Bar) x k truth
  at-absolute {x} {k} (named h) of_what_is_picked = one-kind s g none_marked cells false (unary Op1.Bar) x k (named h)
  at-absolute {x} {k} (cell h) of_what_is_picked = one-kind s g none_marked cells false (unary Op1.Bar) x k (cell h)
  at-absolute {x} {k} (one denied w) of_what_is_picked = one-kind s g none_marked cells false (unary Op1.Bar) x k (one denied w)
  at-absolute {x} {k} (one negative w) of_what_is_picked = one-kind s g none_marked cells false (unary Op1.Bar) x k (one negative w)
  at-absolute {x} {k} (one absolute w) of_what_is_picked = one-kind s g none_marked cells false (unary Op1.Bar) x k (one absolute w)
  at-absolute {x} {k} (two both w h c) of_what_is_picked = one-kind s g none_marked cells false (unary Op1.Bar) x k (two both w h c)
  at-absolute {x} {k} (two either w h c) of_what_is_picked = one-kind s g none_marked cells false (unary Op1.Bar) x k (two either w h c)
  at-absolute {x} {k} (two implied w h c) of_what_is_picked = one-kind s g none_marked cells false (unary Op1.Bar) x k (two implied w h c)
  at-absolute {x} {k} (two agreeing w h c) of_what_is_picked = one-kind s g none_marked cells false (unary Op1.Bar) x k (two agreeing w h c)
  at-absolute {x} {k} (two equal w h c) of_what_is_picked = one-kind s g none_marked cells false (unary Op1.Bar) x k (two equal w h c)
  at-absolute {x} {k} (two unequal w h c) of_what_is_picked = one-kind s g none_marked cells false (unary Op1.Bar) x k (two unequal w h c)
  at-absolute {x} {k} (two below w h c) of_what_is_picked = one-kind s g none_marked cells false (unary Op1.Bar) x k (two below w h c)
  at-absolute {x} {k} (two at_most w h c) of_what_is_picked = one-kind s g none_marked cells false (unary Op1.Bar) x k (two at_most w h c)
  at-absolute {x} {k} (two above w h c) of_what_is_picked = one-kind s g none_marked cells false (unary Op1.Bar) x k (two above w h c)
  at-absolute {x} {k} (two at_least w h c) of_what_is_picked = one-kind s g none_marked cells false (unary Op1.Bar) x k (two at_least w h c)
  at-absolute {x} {k} (two sum w h c) of_what_is_picked = one-kind s g none_marked cells false (unary Op1.Bar) x k (two sum w h c)
  at-absolute {x} {k} (two difference w h c) of_what_is_picked = one-kind s g none_marked cells false (unary Op1.Bar) x k
      (two difference w h c)
  at-absolute {x} {k} (two product w h c) of_what_is_picked = one-kind s g none_marked cells false (unary Op1.Bar) x k (two product w h c)
  at-absolute {x} {k} (chosen w) of_what_is_picked = one-kind s g none_marked cells false (unary Op1.Bar) x k (chosen w)
  at-absolute f r = refl

  -- At `toInt`.
  at-chosen : {x : Ex} {k : Bool} → F x k → (r : KindRule) → kind_rewrite s g r (fun1 false Fun.ToInt x) ≡ None
  at-chosen {x} {k} number of_what_is_picked = one-kind s g none_marked cells false (word Fun.ToInt) x k number
  at-chosen {x} {k} truth of_what_is_picked = one-kind s g none_marked cells false (word Fun.ToInt) x k truth
  at-chosen {x} {k} (named h) of_what_is_picked = one-kind s g none_marked cells false (word Fun.ToInt) x k (named h)
  at-chosen {x} {k} (cell h) of_what_is_picked = one-kind s g none_marked cells false (word Fun.ToInt) x k (cell h)
  at-chosen {x} {k} (one o w) of_what_is_picked = one-kind s g none_marked cells false (word Fun.ToInt) x k (one o w)
  at-chosen {x} {k} (two o w h c) of_what_is_picked = one-kind s g none_marked cells false (word Fun.ToInt) x k (two o w h c)
  at-chosen {x} {k} (chosen w) of_what_is_picked = one-kind s g none_marked cells false (word Fun.ToInt) x k (chosen w)
  at-chosen f r = refl

  -- No rule fires.
  pub no-rule : {e : Ex} {m : Bool} → F e m → (r : KindRule) → kind_rewrite s g r e ≡ None
  no-rule number cell_of_an_atom = refl
  no-rule truth cell_of_an_atom = refl
  no-rule (named h) cell_of_an_atom = refl
  no-rule (cell h) cell_of_an_atom = refl
  no-rule (one {m = k} {x = x} denied f) of_what_is_picked = one-kind s g none_marked cells true (unary Op1.Not) x k f
  no-rule (one {m = k} {x = x} negative f) of_what_is_picked = one-kind s g none_marked cells false (unary Op1.Minus) x k f
  no-rule (one absolute f) r = at-absolute f r
  no-rule (two {m = i} {k = k} {x = x} {y = y} both f h c) of_what_is_picked = two-kind s g none_marked cells true
      (binary Op2.And) x y i k f h
  no-rule (two {m = i} {k = k} {x = x} {y = y} either f h c) of_what_is_picked = two-kind s g none_marked cells true
      (binary Op2.Or) x y i k f h
  no-rule (two {m = i} {k = k} {x = x} {y = y} implied f h c) of_what_is_picked = two-kind s g none_marked cells true
      (binary Op2.Implies) x y i k f h
  no-rule (two {m = i} {k = k} {x = x} {y = y} agreeing f h c) of_what_is_picked = two-kind s g none_marked cells true
      (binary Op2.Iff) x y i k f h
  no-rule (two {m = i} {k = k} {x = x} {y = y} equal f h c) of_what_is_picked = two-kind s g none_marked cells true
      (binary Op2.Eq) x y i k f h
  no-rule (two {m = i} {k = k} {x = x} {y = y} unequal f h c) of_what_is_picked = two-kind s g none_marked cells true
      (binary Op2.Ne) x y i k f h
  no-rule (two {m = i} {k = k} {x = x} {y = y} below f h c) of_what_is_picked = two-kind s g none_marked cells true
      (binary Op2.Lt) x y i k f h
  no-rule (two {m = i} {k = k} {x = x} {y = y} at_most f h c) of_what_is_picked = two-kind s g none_marked cells true
      (binary Op2.Le) x y i k f h
  no-rule (two {m = i} {k = k} {x = x} {y = y} above f h c) of_what_is_picked = two-kind s g none_marked cells true
      (binary Op2.Gt) x y i k f h
  no-rule (two {m = i} {k = k} {x = x} {y = y} at_least f h c) of_what_is_picked = two-kind s g none_marked cells true
      (binary Op2.Ge) x y i k f h
  no-rule (two {m = i} {k = k} {x = x} {y = y} sum f h c) of_what_is_picked = two-kind s g none_marked cells false
      (binary Op2.Plus) x y i k f h
  no-rule (two {m = i} {k = k} {x = x} {y = y} difference f h c) of_what_is_picked = two-kind s g none_marked cells false
      (binary Op2.Minus) x y i k f h
  no-rule (two {m = i} {k = k} {x = x} {y = y} product f h c) of_what_is_picked = two-kind s g none_marked cells false
      (binary Op2.Times) x y i k f h
  no-rule (chosen f) r = at-chosen f r
  no-rule f r = refl
