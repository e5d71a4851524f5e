-- Tuples and relations of the domains of a row.
use Rattle.std.proofs.Common.{◌≡◌, refl, sym, ap, ◌∙◌, Bool, true, false, not, ◌||◌, List, [], ◌∷◌, None, IsTrue, ◌↔◌}
use Rattle.ess_semantics.specs.Trees as pure
use Rattle.ess_semantics.specs.Trees.{Mark, no_doms, more_doms, tuple_dom, relation_dom}
use Rattle.ess_parse_laws.specs.Frames.{Frame, tuple_domains_frame, relation_domains_frame}
use Rattle.ess_parse_laws.specs.Modes.{at_state, domain_read}
use Rattle.ess_parse_laws.specs.AfterDomains.{domain_then_close_round}
use Rattle.ess_parse_laws.specs.Reversed.{reverse_doms}
use Rattle.ess_core.specs.TreeViews.{pure_dom, pure_doms}
use Rattle.ess_core.specs.declared.domains.Dom.{Dom}
use Rattle.ess_parse_frames.specs.Rows.{back_doms}
use Rattle.ess_parse_frames.proofs.RowLaws.{doms_none}
use Rattle.ess_parse_domains.specs.Several.{are_any}

-- ---- whether a row has domains

any-before : (ds : pure.Doms) (e : pure.Dom) (es : pure.Doms) → are_any (reverse_doms ds (more_doms e es)) ≡ true
any-before no_doms e es = refl
any-before (more_doms d ds) e es = any-before ds d (more_doms e es)

any-more : (d : Dom) (ds : List Dom) → are_any (back_doms (d ∷ ds)) ≡ true
unfolding back_doms
any-more d ds = any-before (pure_doms ds) (pure_dom d) no_doms

pub any-is : (b : Bool) (ds : List Dom) → (IsTrue b ↔ (ds ≡ [])) → not b ≡ are_any (back_doms ds)
any-is b [] h = ap not (h.1 refl) ∙ sym (ap are_any doms_none)
any-is true (d ∷ ds) h = let k : d ∷ ds ≡ [] = h.0 refl in cc
any-is false (d ∷ ds) h = sym (any-more d ds)

-- ---- a closing bracket behind them

pub tuple-enough : (two : Bool) (ds : pure.Doms) (d : pure.Dom) (fs : List Frame) → (not two || are_any ds) ≡ true →
    domain_then_close_round (tuple_domains_frame two ds ∷ fs) d ≡ at_state (domain_read (tuple_dom (reverse_doms ds (more_doms d no_doms)))) fs
tuple-enough false ds d fs h = refl
tuple-enough true no_doms d fs h = cc
tuple-enough true (more_doms c ds) d fs h = refl

pub tuple-short : (two : Bool) (ds : pure.Doms) (d : pure.Dom) (fs : List Frame) → (not two || are_any ds) ≡ false → domain_then_close_round (tuple_domains_frame two ds ∷ fs) d ≡ None
tuple-short false ds d fs h = cc
tuple-short true no_doms d fs h = refl
tuple-short true (more_doms c ds) d fs h = cc

pub relation-enough : (ms : List Mark) (es : pure.Exs) (ds : pure.Doms) (d : pure.Dom) (fs : List Frame) → are_any ds ≡ true →
    domain_then_close_round (relation_domains_frame ms es ds ∷ fs) d ≡ at_state (domain_read (relation_dom ms es (reverse_doms ds (more_doms d no_doms)))) fs
relation-enough ms es no_doms d fs h = cc
relation-enough ms es (more_doms c ds) d fs h = refl

pub relation-short : (ms : List Mark) (es : pure.Exs) (ds : pure.Doms) (d : pure.Dom) (fs : List Frame) → are_any ds ≡ false → domain_then_close_round (relation_domains_frame ms es ds ∷ fs) d ≡ None
relation-short ms es no_doms d fs h = refl
relation-short ms es (more_doms c ds) d fs h = cc
