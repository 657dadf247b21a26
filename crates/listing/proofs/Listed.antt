-- The lines of texts that were read with nothing wrong are the listing's.
use mathlib.Core.Path.{◌≡◌, sym, ap, subst, ◌∙◌}
use mathlib.Core.Option.{Option}
use mathlib.Core.List.{List}
use Prim.Native.Nat.{ℕ}
use lib.ListN.{get_or, take}
use native.Mathlib.Omega.{arith}
use Rattle.std.proofs.lemmas.List.{take-take}
use Rattle.basics.specs.Build.{build}
use Rattle.rules.specs.declared.Base.{Base}
use Rattle.rules.specs.Call.{fresh}
use Rattle.rules.specs.Call as rules
use Rattle.rules.specs.Job.{replies, answers}
use Rattle.fields.specs.Names.{names, listed}
use Rattle.heads.specs.View.{Cols, cols_of}
use Rattle.queue.specs.Ring.{Cells}
use Rattle.admit.specs.Gates.{lengths_of}
use Rattle.std.specs.Prelude.{Result}
use Rattle.lines.specs.declared.Cut.{Cut}
use Rattle.lines.specs.Laid.{Lays}
use Rattle.runs.specs.declared.Run.{Run}
use Rattle.runs.specs.Start.{start_of, kept_of}
use Rattle.inputs.specs.Texts.{Texts, Fault, room, names_of, bases_of, job_of}
use Rattle.inputs.specs.Parted.{texts_of}
use Rattle.inputs.specs.Read.{base_in}
use Rattle.inputs.specs.declared.Read.{Read}
use Rattle.walk.specs.Run.{Comes, Fine, Slots, Begins, plan_of}
use Rattle.walk.proofs.Beginning.{begins}
use Rattle.walk.proofs.FineLaws.{list_is}
use Rattle.walk.specs.Memory.{rows_in, FineIn, Stands}
use Rattle.walk.specs.declared.Memory.{Memory}
use Rattle.walk.specs.declared.Tables.{Tables}
use Rattle.listing.specs.Listing.{run_lines, unless_fault, listing}
use Rattle.listing.specs.Run.{lines_from}

module _ (bytes ends : List ℕ) {from to len : List ℕ} {b s : Cols} {r : Read} (f : Fine (texts_of bytes ends) r from to len b s) where
  abbrev list : List ℕ
  list = take (get_or ends 0 0) bytes

  abbrev t : Texts
  t = texts_of bytes ends

  run_begins : Begins t r.names len s (kept_of (start_of (plan_of r list from to s)))
  run_begins = begins (list_is bytes ends f) f

  module _ {run : Run} (is : run ≡ kept_of (start_of (plan_of r list from to s))) where
    pub run_comes : (c : Cells) → Slots c → Comes s (take r.names len) run c
    run_comes c z = subst (λ (u : Run). Comes s (take r.names len) u c) (sym is) (run_begins.comes c z)

    -- the lines of the bases are those of the listing
    pub run_lines_lem : (c : Cells) → lines_from (names list (take r.names from) (take r.names to)) (take r.names len) b s r.bases 0 run c ≡ listing t
    unfolding listing
    run_lines_lem c =
        let bases : build (base_in b) r.bases 0 ≡ bases_of t = f.columns.bases in
        let ns : names list (take r.names from) (take r.names to) ≡ names_of t = ap (λ (l : List ℕ). names l (take r.names from) (take r.names to)) (sym (list_is bytes ends f)) ∙ f.columns.names.named in
        ap (λ (u : Run). lines_from (names list (take r.names from) (take r.names to)) (take r.names len) b s r.bases 0 u c) is
        ∙ ap (λ (x : rules.Run). run_lines (names list (take r.names from) (take r.names to)) 0 (build (base_in b) r.bases 0) (replies (lengths_of (take r.names len)) room x (build (base_in b) r.bases 0))) (run_begins.fresh_run c)
        ∙ ap (λ (bs : List Base). run_lines (names list (take r.names from) (take r.names to)) 0 bs (replies (lengths_of (take r.names len)) room (fresh (job_of t).streams) bs)) bases
        ∙ ap (λ (l : List ℕ). run_lines (names list (take r.names from) (take r.names to)) 0 (bases_of t) (replies (lengths_of l) room (fresh (job_of t).streams) (bases_of t))) f.columns.names.lengths
        ∙ ap (λ (k : List (List ℕ)). run_lines k 0 (bases_of t) (answers (job_of t) (bases_of t))) ns
        ∙ sym (ap (λ (o : Option Fault). unless_fault o (run_lines (names_of t) 0 (bases_of t) (answers (job_of t) (bases_of t)))) f.fine)

    pub run_listed : (c : Cells) {old new : List ℕ} {x : Result ℕ Cut} → Lays old 0 (lines_from (names list (take r.names from) (take r.names to)) (take r.names len) b s r.bases 0 run c) x new → Lays old 0 (listing t) x new
    run_listed c {old} {new} {x} h = subst (λ (ls : List (List ℕ)). Lays old 0 ls x new) (run_lines_lem c) h

-- the same, of the tables that were made of the memory
module _ (bytes ends : List ℕ) {m : Memory} {r : Read} (f : FineIn (texts_of bytes ends) r m) {u : Tables} (h : Stands bytes ends r m u) {run : Run}
    (is : run ≡ kept_of (start_of (plan_of r u.names.text.now u.names.from.now u.names.to.now (cols_of u.rows)))) where
  run_is : run ≡ kept_of (start_of (plan_of r (list bytes ends f) m.from m.to (rows_in m)))
  run_is = rw (h.text, h.from, h.to, h.rows, take-take r.names r.names m.from (omega arith), take-take r.names r.names m.to (omega arith)) at is

  pub tables_come : (c : Cells) → Slots c → Comes (cols_of u.rows) u.lengths.now run c
  tables_come c z = rw (h.rows, h.lengths) (run_comes bytes ends f run_is c z)

  pub tables_listed : (c : Cells) {old new : List ℕ} {x : Result ℕ Cut} → Lays old 0 (lines_from (listed u.names) u.lengths.now (cols_of u.bases) (cols_of u.rows) r.bases 0 run c) x new → Lays old 0 (listing (texts_of bytes ends)) x new
  tables_listed c {old} {new} {x} y = run_listed bytes ends f run_is c (rw (h.text, h.from, h.to, h.lengths, h.bases, h.rows) at y)
