mod KeeperFacts
mod StoryFacts
