-- What a reduced expression, or a reduced domain, of the parser is in the machine.
use Rattle.std.specs.Prelude.{◌≡◌}
use Rattle.ess_parse_laws.specs.Reducing as machine
use Rattle.ess_parse_laws.specs.Modes.{State, domain_read}
use Rattle.ess_core.specs.TreeViews.{pure_dom}
use Rattle.ess_parse_frames.specs.Patterns.{view_operand, is_pattern_operand}
use Rattle.ess_parse_frames.specs.Views.{view_frames}
use Rattle.ess_parse_frames.specs.declared.reducing.Reduced.{Reduced}
use Rattle.ess_parse_frames.specs.declared.reducing.ReducedDomain.{ReducedDomain}

-- The reduced expression of the machine.
abbrev pub view_reduced : Reduced → machine.Reduced
view_reduced r = machine.reduced (view_frames r.frames) r.ends_in_body (is_pattern_operand r.operand) r.level (view_operand r.operand)

-- The machine reduces an expression to this.
abbrev pub Reduces : machine.Reduced → Reduced → Type 0
Reduces r s = r ≡ view_reduced s

-- The machine reduces a domain to this.
abbrev pub ReducesDomain : State → ReducedDomain → Type 0
ReducesDomain r s = r ≡ record { mode = domain_read (pure_dom s.domain); frames = view_frames s.frames }
