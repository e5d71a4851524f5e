-- The statements of a specification that are lettings of a file.
use Rattle.std.proofs.Common.{◌≡◌, refl, sym, ap, ◌∙◌, true, false, ◌&&◌, List, [], ◌∷◌, ◌++◌, append-nil, length, map, Some, None}
use Rattle.std.specs.List.{list_all}
use Rattle.ess_semantics.specs.Trees.{Stm}
use Rattle.ess_core.specs.declared.statements.Stm as core
use Rattle.ess_core.specs.StatementViews.{pure_stm}
use Rattle.ess_grammar.specs.Readable.{is_plain_letting}
use Rattle.ess_parse.specs.declared.lettings.statements.Letting.{Letting}
use Rattle.ess_parse.specs.declared.lettings.statements.Letting.TheVariants as L
use Rattle.ess_parse.specs.LettingViews.{pure_letting}
use Rattle.ess_parse.specs.Machines.{only_lettings}

plain : (l : Letting) → is_plain_letting (pure_letting l) ≡ true
plain (L.Value a e) = refl
plain (L.Enum a ns) = refl

all-plain : (ls : List Letting) → list_all is_plain_letting (map pure_letting ls) ≡ true
all-plain [] = refl
all-plain (l ∷ ls) = ap (λ b. b && list_all is_plain_letting (map pure_letting ls)) (plain l) ∙ all-plain ls

-- All are.
pub only-these : (ss : List Stm) (ls : List Letting) → map pure_letting ls ≡ ss → only_lettings (Some ss) ≡ Some (map pure_letting ls)
only-these ss ls h =
    ap (λ qs. only_lettings (Some qs)) (sym h) ∙ ap (λ b. elim b [ true ↦ Some (map pure_letting ls) | false ↦ None ]) (all-plain ls)

not-all : (ls : List Letting) (s : Stm) (ss : List Stm) → is_plain_letting s ≡ false → list_all is_plain_letting (map pure_letting ls ++ s ∷ ss) ≡ false
not-all [] s ss h = ap (λ b. b && list_all is_plain_letting ss) h
not-all (l ∷ ls) s ss h = ap (λ b. b && list_all is_plain_letting (map pure_letting ls ++ s ∷ ss)) (plain l) ∙ not-all ls s ss h

-- One isn't.
pub not-only : (qs : List Stm) (ls : List Letting) (s : Stm) (ss : List Stm) → map pure_letting ls ++ s ∷ ss ≡ qs → is_plain_letting s ≡ false → only_lettings (Some qs) ≡ None
not-only qs ls s ss e h =
    ap (λ rs. only_lettings (Some rs)) (sym e) ∙ ap (λ b. elim b [ true ↦ Some (map pure_letting ls ++ s ∷ ss) | false ↦ None ]) (not-all ls s ss h)

map-push : (ls : List Letting) (l : Letting) (ss : List Stm) → map pure_letting (ls ++ l ∷ []) ++ ss ≡ map pure_letting ls ++ pure_letting l ∷ ss
map-push [] l ss = refl
map-push (k ∷ ls) l ss = ap (λ qs. pure_letting k ∷ qs) (map-push ls l ss)

-- One more.
pub one-more : (old new : List Letting) (l : Letting) (s : Stm) (ss qs : List Stm) → new ≡ old ++ l ∷ [] → pure_letting l ≡ s → map pure_letting old ++ s ∷ ss ≡ qs → map pure_letting new ++ ss ≡ qs
one-more old new l s ss qs n e h =
    ap (λ ls. map pure_letting ls ++ ss) n ∙ map-push old l ss ∙ ap (λ q. map pure_letting old ++ q ∷ ss) e ∙ h

-- No more.
pub no-more : (ls : List Letting) (rest : List core.Stm) (qs : List Stm) → length rest ≡ 0 → map pure_letting ls ++ map pure_stm rest ≡ qs → map pure_letting ls ≡ qs
no-more ls [] qs e h = sym (append-nil (map pure_letting ls)) ∙ h
no-more ls (s ∷ rest) qs e h = cc
