-- Workers before and after the start.
use Rattle.std.proofs.Common.{◌≡◌, ◌≤◌, ◌<◌, ◌∙◌, ℕ, List, [], ◌∷◌, length, map, get_or, Result, refl, sym, ap, subst, arith}
use Rattle.std.proofs.Math.ListN.{set}
use Rattle.auth_decide.specs.declared.site.Site.{Site}
use Rattle.auth_io.specs.Causes.{Rose}
use Rattle.listen_core.specs.declared.workers.Worker.{Worker}
use Rattle.origin_core.specs.Outside.{FilesState}
use Rattle.worker_loop.proofs.Places.{part_at}
use Rattle.authd.specs.Listen.{AcceptFaultRose, Starts}
use Rattle.authd.specs.Loading.{LoadsSite}
use Rattle.authd.specs.declared.failure.Failure.{Failure}

abbrev with_files : {A F C W : Type 0} → Worker A F C W → F → Worker A F C W
with_files w files = record { accept = w.accept; files = files; clock = w.clock; random = w.random }

-- The first worker's files were read.
pub starts_of : {A F C W : Type 0} (at : F → FilesState) (store spaces root : List ℕ) (workers : List (Worker A F C W)) (found : Worker A F C W) (files : F) (site : Result Site Failure) →
    1 ≤ length workers → found ≡ get_or workers 0 found → LoadsSite at found.files files store spaces root site → Starts at store spaces root workers (set workers 0 (with_files found files)) site
starts_of at store spaces root [] found files site some is loads = absurd (omega (arith, some))
starts_of {A} {F} {C} {W} at store spaces root (first ∷ rest) found files site some is loads =
    subst (λ (w : Worker A F C W). LoadsSite at w.files files store spaces root site → Starts at store spaces root (first ∷ rest) (with_files w files ∷ rest) site) (sym is)
    (λ l. (first, rest, files, refl, refl, l)) loads

-- What rose after the start has risen since before it.
pub accept_rose : {A F C W : Type 0} (at : F → FilesState) (store spaces root : List ℕ) (faults : A → ℕ) (before started now : List (Worker A F C W)) (site : Result Site Failure) →
    Starts at store spaces root before started site → AcceptFaultRose faults started now → AcceptFaultRose faults before now
accept_rose {A} {F} {C} {W} at store spaces root faults before started now site starts rose =
    let accept : Worker A F C W → A = λ w. w.accept in
    let same : map accept started ≡ map accept before = ap (map accept) starts.4 ∙ sym (ap (map accept) starts.3) in
    let long : length started ≡ length before = ap length starts.4 ∙ sym (ap length starts.3) in
    let k = rose.0 in
    let here : k < length started = rose.1 in
    let there : k < length before = omega (arith, here, long) in (
      k,
      there,
      λ w.
          let left = part_at accept started (map accept before) k w w.accept same here in
          let right = part_at accept before (map accept before) k w w.accept refl there in
          subst (λ (a : A). Rose (faults a) (faults (get_or now k w).accept)) (left ∙ sym right) (rose.2 w),
    )
