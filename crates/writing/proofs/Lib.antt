pub mod DelayLaws
pub mod HeadLaws
pub mod ChunkLaws
pub mod Forms
pub mod LongestLaws
pub mod LongTable
