-- Workers of a proxy before and after the start.
use Rattle.std.proofs.Common.{◌≡◌, ◌≤◌, ◌<◌, ◌∙◌, ℕ, List, [], ◌∷◌, length, map, get_or, Result, refl, sym, ap, subst, arith}
use Rattle.std.proofs.Math.ListN.{set}
use Rattle.auth_decide.specs.declared.site.Site.{Site}
use Rattle.auth_io.specs.Causes.{Rose}
use Rattle.proxy_core.specs.declared.site.ProxySite.{ProxySite}
use Rattle.proxy_listen.specs.declared.shared.ProxyWorker.{ProxyWorker}
use Rattle.origin_core.specs.Outside.{FilesState}
use Rattle.worker_loop.proofs.Places.{part_at}
use Rattle.authd.specs.Proxying.{AcceptFaultRose, IsFit, Starts}
use Rattle.authd.specs.Loading.{LoadsSite}
use Rattle.authd.specs.declared.failure.Failure.{Failure}

abbrev with_files : {A N F C W : Type 0} → ProxyWorker A N F C W → F → ProxyWorker A N F C W
with_files w files = record { accept = w.accept; dial = w.dial; files = files; clock = w.clock; random = w.random }

-- The first worker's files were read.
pub starts_of : {A N F C W : Type 0} (at : F → FilesState) (store spaces : List ℕ) (workers : List (ProxyWorker A N F C W)) (found : ProxyWorker A N F C W) (files : F) (site : Result Site Failure) (fit : Result ProxySite Failure) →
    1 ≤ length workers → found ≡ get_or workers 0 found → LoadsSite at found.files files store spaces [] site → IsFit site fit → Starts at store spaces workers (set workers 0 (with_files found files)) fit
starts_of at store spaces [] found files site fit some is loads fits = absurd (omega (arith, some))
starts_of {A} {N} {F} {C} {W} at store spaces (first ∷ rest) found files site fit some is loads fits =
    subst (λ (w : ProxyWorker A N F C W). LoadsSite at w.files files store spaces [] site → Starts at store spaces (first ∷ rest) (with_files w files ∷ rest) fit) (sym is)
    (λ l. (first, rest, files, site, refl, refl, l, fits)) loads

-- What rose after the start has risen since before it.
pub accept_rose : {A N F C W : Type 0} (at : F → FilesState) (store spaces : List ℕ) (faults : A → ℕ) (before started now : List (ProxyWorker A N F C W)) (fit : Result ProxySite Failure) →
    Starts at store spaces before started fit → AcceptFaultRose faults started now → AcceptFaultRose faults before now
accept_rose {A} {N} {F} {C} {W} at store spaces faults before started now fit starts rose =
    let accept : ProxyWorker A N F C W → A = λ w. w.accept in
    let same : map accept started ≡ map accept before = ap (map accept) starts.5 ∙ sym (ap (map accept) starts.4) in
    let long : length started ≡ length before = ap length starts.5 ∙ sym (ap length starts.4) in
    let k = rose.0 in
    let here : k < length started = rose.1 in
    let there : k < length before = omega (arith, here, long) in (
      k,
      there,
      λ w.
          let left = part_at accept started (map accept before) k w w.accept same here in
          let right = part_at accept before (map accept before) k w w.accept refl there in
          subst (λ (a : A). Rose (faults a) (faults (get_or now k w).accept)) (left ∙ sym right) (rose.2 w),
    )
