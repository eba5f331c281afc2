pub mod LineLaws
pub mod SetLaws
pub mod MemoryLaws
pub mod RoomLaws
pub mod KeptLaws
