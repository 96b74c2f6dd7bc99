-- What becomes of a connection of a browser.
use Rattle.std.specs.Prelude.{◌≡◌, ◌↔◌, ⊤, ℕ, Bool, IsTrue, List, [], ◌++◌, Some, None, slice_get}
use Rattle.std.specs.declared.option.Option.{Option}
use Rattle.std.specs.Net.Addr.{MatchIp, IsLoopbackV4, IsLoopbackV6}
use Rattle.std.specs.Net.Socket.{socket_ip}
use Rattle.std.specs.declared.net.ip_addr.IpAddr.{IpAddr}
use Rattle.std.specs.declared.net.socket_addr.SocketAddr.{SocketAddr}
use Rattle.kl1_session.specs.Conversations.{Done}
use Rattle.kl1_session.specs.Files.{Entry}
use Rattle.kl1_host_front.specs.Addresses.{IsCanonical}
use Rattle.kl1_host_front.specs.Sums.{opened_by_sum, sum_of}
use Rattle.kl1_host_door.specs.Doors.{mark_at}
use Rattle.kl1_host_door.specs.declared.door.Site.{Site}
use Rattle.kl1_host_web.specs.Asking.{Asked, AreDone}
use Rattle.kl1_host_web.specs.Writing.{Connects}

-- what the account of a number is called
abbrev pub name_at : List Entry → ℕ → List ℕ
name_at entries account = elim (slice_get entries account) [ None ↦ [] | Some entry ↦ entry.name ]

-- whether an address is of the machine of the host: one that loops back, also if it is mapped in one of version 6
abbrev pub IsLocal : SocketAddr → Bool → Type 0
IsLocal address is_local = (canonical : IpAddr) × IsCanonical (socket_ip address) canonical × (IsTrue is_local ↔ MatchIp canonical IsLoopbackV4 IsLoopbackV6)

-- the requests of a connection from an address were attended to, one after another, and their answers written in this order, up to where it ended; and of the
-- accounts with these names and keys was done what was asked for them, each command once, by what had done some before and has done these now. By a key
-- that lets in to an account sessions of browsers begin with the mark that is its sum.
pub record IsServed (entries : List Entry) (accounts idle : ℕ) (sites : List Site) (address : SocketAddr) (unread old new : Option (List ℕ)) (failed fails : ℕ) (before after : List Done) : Type 0 where
  pub is_local : Bool
  pub by_address : IsLocal address is_local
  pub marks : (name key : List ℕ) (account : ℕ) → opened_by_sum entries name key ≡ Some account → mark_at entries account ≡ sum_of key
  pub asked : List Asked
  pub dones : List Done
  pub connects : Connects (λ second. ⊤) (λ bytes. ⊤) idle (record { accounts = accounts; names = name_at entries; opens = opened_by_sum entries; entries = entries; before = before }) sites is_local unread old new failed fails [] asked
  pub done : after ≡ before ++ dones
  pub each : AreDone asked dones
