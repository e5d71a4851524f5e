-- What has no conditions of its own, and no parts with conditions, has none; and it stays as it is.
use Rattle.std.proofs.Common.{◌≡◌, ap, ◌∙◌, Bool, true, List, [], ◌∷◌, ◌++◌}
use Rattle.ess_semantics.specs.declared.words.Op2.{Op2}
use Rattle.ess_semantics.specs.declared.words.Fun.{Fun}
use Rattle.ess_semantics.specs.Values.{Text}
use Rattle.ess_semantics.specs.Trees.{both_ends, name_pat, Ex, no_exs, more_exs, comp_ex, Gens, over, from, int_dom, ex2, fun1}
use Rattle.ess_guard_laws.specs.Conditions.{chained, every}

-- Two operands whose nodes have conditions of their own, and none.
pub none-both : (as' bs : List Ex) → as' ≡ [] → bs ≡ [] → (as' ++ (bs ++ [])) ++ [] ≡ []
none-both as' bs a b = ap (λ l. (l ++ (bs ++ [])) ++ []) a ∙ ap (λ l. ([] ++ (l ++ [])) ++ []) b

-- One operand.
pub none-one : (as' : List Ex) → as' ≡ [] → (as' ++ []) ++ [] ≡ []
none-one as' a = ap (λ l. (l ++ []) ++ []) a

-- A generator over a range, and over members.
pub none-range : (as' bs cs : List Ex) (g : Gens) → as' ≡ [] → bs ≡ [] → cs ≡ [] → (as' ++ (bs ++ [])) ++ every g cs ≡ []
none-range as' bs cs g a b c =
    ap (λ l. (as' ++ (bs ++ [])) ++ every g l) c ∙ none-both as' bs a b

pub none-source : (as' cs : List Ex) (g : Gens) → as' ≡ [] → cs ≡ [] → as' ++ every g cs ≡ []
none-source as' cs g a c = ap (λ l. as' ++ every g l) c ∙ ap (λ l. l ++ []) a

-- A Boolean of two terms without conditions.
pub two-kept : (o : Op2) (x y z u : Ex) (as' bs : List Ex) → as' ≡ [] → bs ≡ [] → z ≡ x → u ≡ y →
    chained ((as' ++ (bs ++ [])) ++ []) (ex2 true o z u) ≡ ex2 true o x y
two-kept o x y z u as' bs a b q r =
    ap (λ l. chained l (ex2 true o z u)) (none-both as' bs a b) ∙ ap (λ v. ex2 true o v u) q ∙ ap (ex2 true o x) r

-- A word on a list without conditions.
pub fold-kept : (f : Fun) (e e' : Ex) (gs gs' : Gens) (as' : List Ex) → as' ≡ [] → e' ≡ e → gs' ≡ gs →
    chained ((as' ++ []) ++ []) (fun1 true f (comp_ex e' gs')) ≡ fun1 true f (comp_ex e gs)
fold-kept f e e' gs gs' as' a q r =
    ap (λ l. chained l (fun1 true f (comp_ex e' gs'))) (none-one as' a) ∙ ap (λ z. fun1 true f (comp_ex z gs')) q
    ∙ ap (λ z. fun1 true f (comp_ex e z)) r

-- An operator, and generators, of what stays.
pub both-kept : (b : Bool) (o : Op2) (x y x' y' : Ex) → x' ≡ x → y' ≡ y → ex2 b o x' y' ≡ ex2 b o x y
both-kept b o x y x' y' q r = ap (λ z. ex2 b o z y') q ∙ ap (ex2 b o x) r

pub range-kept : (a : Text) (x y x' y' : Ex) (gs gs' : Gens) → x' ≡ x → y' ≡ y → gs' ≡ gs →
    over (name_pat a) (int_dom (both_ends ∷ []) (more_exs x' (more_exs y' no_exs))) gs'
    ≡ over (name_pat a) (int_dom (both_ends ∷ []) (more_exs x (more_exs y no_exs))) gs
range-kept a x y x' y' gs gs' q r w =
    ap (λ z. over (name_pat a) (int_dom (both_ends ∷ []) (more_exs z (more_exs y' no_exs))) gs') q
    ∙ ap (λ z. over (name_pat a) (int_dom (both_ends ∷ []) (more_exs x (more_exs z no_exs))) gs') r
    ∙ ap (over (name_pat a) (int_dom (both_ends ∷ []) (more_exs x (more_exs y no_exs)))) w

pub source-kept : (a : Text) (s s' : Ex) (gs gs' : Gens) → s' ≡ s → gs' ≡ gs → from (name_pat a) s' gs' ≡ from (name_pat a) s gs
source-kept a s s' gs gs' q r = ap (λ z. from (name_pat a) z gs') q ∙ ap (from (name_pat a) s) r
