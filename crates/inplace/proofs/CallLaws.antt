-- The calls over a run kept in place say what the calls by value do.
use mathlib.Core.Path.{◌≡◌, ap, ◌∙◌}
use mathlib.Core.List.{List}
use Prim.Native.Nat.{ℕ}
use lib.ListN.{length}
use Rattle.rules.specs.declared.Settings.{Settings}
use Rattle.heads.specs.View.{Cols}
use Rattle.std.specs.Prelude.{Result}
use Rattle.rules.specs.declared.Unbegun.{Unbegun}
use Rattle.runs.specs.declared.Run.{Run}
use Rattle.runs.specs.Start.{plan, start_of}
use Rattle.inplace.specs.Calls.{eight_of, streams_in, plan_of}

-- a run begun with ranges in two columns
pub begins_so : (x : Settings) (from to : List ℕ) (text names_from names_to : List ℕ) (s : Cols) {n : ℕ} {begins ends : List ℕ} {t : Result Run Unbegun}
    → t ≡ start_of (plan (record { streams = n; chroms = x.chroms; room = x.room }) begins ends text names_from names_to s) → n ≡ streams_in x.streams (length from) (length to) → begins ≡ eight_of from → ends ≡ eight_of to
    → t ≡ start_of (plan_of x from to text names_from names_to s)
begins_so x from to text names_from names_to s {n} {begins} {ends} {t} et en ef eo =
    et ∙ ap (λ (m : ℕ). start_of (plan (record { streams = m; chroms = x.chroms; room = x.room }) begins ends text names_from names_to s)) en ∙
    ap (λ (l : List ℕ). start_of (plan (record { streams = streams_in x.streams (length from) (length to); chroms = x.chroms; room = x.room }) l ends text names_from names_to s)) ef ∙
    ap (λ (l : List ℕ). start_of (plan (record { streams = streams_in x.streams (length from) (length to); chroms = x.chroms; room = x.room }) (eight_of from) l text names_from names_to s)) eo
