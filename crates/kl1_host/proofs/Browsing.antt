-- Connections of browsers, and what is done for them.
use Rattle.std.proofs.Common.{◌≡◌, ℕ, Bool, List, [], subst}
use Rattle.std.specs.Prelude.{⊤}
use Rattle.std.proofs.Math.Logic.{∥∥₁_map}
use Rattle.std.specs.declared.option.Option.{Option}
use Rattle.std.specs.declared.net.socket_addr.SocketAddr.{SocketAddr}
use Rattle.kl1_session.specs.Conversations.{Done}
use Rattle.kl1_session.specs.Files.{Entry}
use Rattle.kl1_host_front.specs.Sums.{opened_by_sum, sum_of}
use Rattle.kl1_host_door.specs.declared.door.Site.{Site}
use Rattle.kl1_host_web.specs.Asking.{Asked, House, HasDone}
use Rattle.kl1_host_web.specs.Writing.{Connects}
use Rattle.kl1_host.specs.Browsers.{name_at, IsLocal, IsServed}
use Rattle.kl1_host.proofs.Doors.{found_by_mark}

-- what was served, and done for it
pub served_by : (entries : List Entry) (accounts idle : ℕ) (its_sites sites : List Site) (address : SocketAddr) (is_local local_now : Bool) (unread old new : Option (List ℕ)) (failed fails : ℕ) (before begun after : List Done) (from asked : List Asked) (house : House) → house ≡ record { accounts = accounts; names = name_at entries; opens = opened_by_sum entries; entries = entries; before = before } → its_sites ≡ sites → is_local ≡ local_now → IsLocal address local_now → from ≡ [] → begun ≡ before → Connects (λ second. ⊤) (λ bytes. ⊤) idle house its_sites is_local unread old new failed fails from asked → ∥ HasDone begun after asked ∥₁ → ∥ ((n : ℕ) × IsServed entries accounts n sites address unread old new failed fails before after) ∥₁
served_by entries accounts idle its_sites sites address is_local local_now unread old new failed fails before begun after from asked house is same_sites same_local by_address none same connects done =
    let own : House = record { accounts = accounts; names = name_at entries; opens = opened_by_sum entries; entries = entries; before = before } in
    let by_house = subst (λ (h : House). Connects (λ second. ⊤) (λ bytes. ⊤) idle h its_sites is_local unread old new failed fails from asked) is connects in
    let by_sites = subst (λ (s : List Site). Connects (λ second. ⊤) (λ bytes. ⊤) idle own s is_local unread old new failed fails from asked) same_sites by_house in
    let by_local = subst (λ (b : Bool). Connects (λ second. ⊤) (λ bytes. ⊤) idle own sites b unread old new failed fails from asked) same_local by_sites in
    ∥∥₁_map (subst (λ (b : List Done). ∥ HasDone b after asked ∥₁) same done) (λ h. (
      idle,
      record {
        is_local = local_now;
        by_address = by_address;
        marks = λ name key account at. found_by_mark entries name (sum_of key) account at;
        asked = asked;
        dones = h.0;
        connects = subst (λ (l : List Asked). Connects (λ second. ⊤) (λ bytes. ⊤) idle own sites local_now unread old new failed fails l asked) none by_local;
        done = h.1;
        each = h.2;
      },
    ))
