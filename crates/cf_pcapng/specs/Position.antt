-- How far a file was read since a reader's last piece.
use Rattle.std.specs.Prelude.{ℕ, Bool, true, false, List, ◌++◌, Option}
use Rattle.cf_pcap.specs.declared.form.Order.{Order}
use Rattle.cf_pcapng.specs.declared.interfaces.Interface.{Interface}
use Rattle.cf_pcapng.specs.File.{State}

-- the interfaces of the section at hand: those that the reader had, unless a section has begun since, and those that came
abbrev pub listed : List Interface → Bool → List Interface → List Interface
listed had true came = came
listed had false came = had ++ came

-- what the reader had, whether a section has begun since, and what came
pub record InterfacesValue : Type 0 where
  pub had : List Interface
  pub anew : Bool
  pub came : List Interface

-- the interfaces of the section at hand, numbered from 0
abbrev pub interfaces_of : InterfacesValue → List Interface
interfaces_of l = listed l.had l.anew l.came

-- how far a file was read: the byte order of its section (None before the first), its interfaces, and the number of frames so far
pub record PositionValue : Type 0 where
  pub order : Option Order
  pub listed : InterfacesValue
  pub count : ℕ

-- the state of the format that a position stands for
abbrev pub state_of : PositionValue → State
state_of p = record { order = p.order; interfaces = interfaces_of p.listed; count = p.count }
