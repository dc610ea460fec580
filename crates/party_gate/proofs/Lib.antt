pub mod KeeperFacts
pub mod OwnLines
pub mod PassingFacts
pub mod PieceFacts
pub mod RunFacts
pub mod SeenFacts
pub mod WhoseFacts
